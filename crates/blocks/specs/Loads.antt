-- Memory that is filled with records, one after another. Assumes nothing.
--     memory_with m i r    m with r written over it from i on
--     event_before m n     the event of the last of the first n records of m
--     room_rules m n r     the rules that r has 16 bytes, and that there is room for it in memory m that holds n
--                          records: n is below most_events, and m has 16 bytes left behind the n records
--     add_rules m n r      the rules for adding r to memory m that holds n records, in the order in
--                          which they are tested: there is room for it, and it obeys the rules of a record after those
--     accepted_records a r  the list of r alone where the answer a is Ok, else the empty list
--     Filling o rs m n     memory that was o at first is now m and holds n records: rs, added one after
--                          another, none of which broke a rule
--     IsFilledWith o rs m n  n is the number of the records rs, they are the front of m, that front opens as
--                          a block without fault and with exactly their events, and behind it m is as o
use Rattle.std.specs.Prelude.{◌≡◌, ℕ, ◌+◌, ◌*◌, ◌&&◌, List, [], ◌∷◌, ◌++◌, map, length, take, drop, is_ok, Ok, Option, Result, ◌==◌, nat_le, if◌then◌else◌}
use Rattle.std.specs.List.{flat_map}
use Rattle.faults.specs.declared.Fault.{Fault}
use Rattle.faults.specs.declared.Fault.TheVariants.{PartialRecord, TooManyRecords}
use Rattle.faults.specs.Rules.{Rule, IsKept}
use Rattle.records.specs.declared.event.Event.{Event}
use Rattle.records.specs.Layout.{event_in}
use Rattle.records.specs.Limits.{most_events}
use Rattle.blocks.specs.Blocks.{last_event, events_or_fault, rules_after}
use Rattle.blocks.specs.Rows.{records_of}

abbrev pub memory_with : List ℕ → ℕ → List ℕ → List ℕ
memory_with m i r = take i m ++ (r ++ drop (i + length r) m)

abbrev pub event_before : List ℕ → ℕ → Option Event
event_before m n = last_event (take n (records_of m))

abbrev pub room_rules : List ℕ → ℕ → List ℕ → List Rule
room_rules m n r =
    ((length r == 16), PartialRecord n)
    ∷ (nat_le (n + 1) most_events && nat_le (16 * n + 16) (length m), TooManyRecords n)
    ∷ []

abbrev pub add_rules : List ℕ → ℕ → List ℕ → List Rule
add_rules m n r =
    room_rules m n r ++ rules_after (event_before m n) n r

abbrev pub accepted_records : {T : Type 0} → Result T Fault → List ℕ → List (List ℕ)
accepted_records a r = if is_ok a then r ∷ [] else []

pub data Filling (o : List ℕ) : List (List ℕ) → List ℕ → ℕ → Type 0 where
  begun : Filling o [] o 0
  added : {rs : List (List ℕ)} {m : List ℕ} {n : ℕ} (r : List ℕ) → Filling o rs m n → IsKept (add_rules m n r) → Filling o (rs ++ r ∷ []) (memory_with m (16 * n) r) (n + 1)

pub record IsFilledWith (o : List ℕ) (rs : List (List ℕ)) (m : List ℕ) (n : ℕ) : Type 0 where
  pub number : n ≡ length rs
  pub front : take (16 * n) m ≡ flat_map (λ r. r) rs
  pub opens : events_or_fault (take (16 * n) m) ≡ Ok (map event_in rs)
  pub rest : drop (16 * n) m ≡ drop (16 * n) o
