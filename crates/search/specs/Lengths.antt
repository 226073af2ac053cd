-- When the tables that are given with a query are long enough. Assumes nothing.
--     Lengths          the lengths of these tables: log, board, queue of arrivals, steps
--     lengths_in a b c d  how long these are, as log, board, queue and step table
--     table_rules n t  the rules that tables of the lengths t obey for n events: two entries of the log and two slots
--                      of the queue for each, board_slots entries of the board; and a slot of the step table for each
--     IsLongEnough n t  tables of the lengths t obey these rules
use Rattle.std.specs.Prelude.{ℕ, ◌*◌, ◌&&◌, ◌≤◌, List, [], ◌∷◌, length, nat_le}
use Rattle.faults.specs.declared.Fault.TheVariants.{StepTableTooShort, WorkTableTooShort}
use Rattle.faults.specs.Rules.{Rule}
use Rattle.records.specs.Limits.{board_slots}

pub record Lengths : Type 0 where
  pub log : ℕ
  pub board : ℕ
  pub queue : ℕ
  pub steps : ℕ

abbrev pub lengths_in : {A B C D : Type 0} → List A → List B → List C → List D → Lengths
lengths_in log board queue steps =
    record { log = length log; board = length board; queue = length queue; steps = length steps }

abbrev pub table_rules : ℕ → Lengths → List Rule
table_rules n t =
    (nat_le (n * 2) t.log && (nat_le board_slots t.board && nat_le (n * 2) t.queue), WorkTableTooShort)
    ∷ (nat_le n t.steps, StepTableTooShort)
    ∷ []

pub record IsLongEnough (n : ℕ) (t : Lengths) : Type 0 where
  pub log : n * 2 ≤ t.log
  pub board : board_slots ≤ t.board
  pub queue : n * 2 ≤ t.queue
  pub steps : n ≤ t.steps
