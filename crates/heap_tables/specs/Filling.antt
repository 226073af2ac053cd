-- Tables on the heap. Assumes nothing.
--     lengths_for n        the least lengths of tables for n events, up to 2 ^ 64 - 1
--     IsFilled l s t       the tables t have the lengths l, and s in each slot
use Rattle.std.specs.Prelude.{◌≡◌, ℕ, ◌-◌, ◌*◌, ◌^◌, min, replicate}
use Rattle.records.specs.Limits.{board_slots}
use Rattle.heap_tables.specs.declared.HeapTables.{HeapTables}
use Rattle.heap_tables.specs.declared.Lengths.{Lengths}
use Rattle.heap_tables.specs.declared.Slots.{Slots}

abbrev pub lengths_for : ℕ → Lengths
lengths_for n =
    let slots = min (n * 2) (2 ^ 64 - 1) in
    record { log = slots; board = board_slots; queue = slots; steps = n }

pub record IsFilled {L : Type 0} (l : Lengths) (s : Slots L) (t : HeapTables L) : Type 0 where
  pub log : t.log.items ≡ replicate l.log s.entry
  pub board : t.board.items ≡ replicate l.board s.incumbent
  pub queue : t.queue.items ≡ replicate l.queue s.arrival
  pub steps : t.steps.items ≡ replicate l.steps s.step
