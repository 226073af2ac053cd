-- A block of bytes as a list of events. Assumes nothing.
--     may_follow o e   e may stand right after o: o is none, or an event with which it is in order
--     rules_after o i r  the rules that r obeys as record i behind the event o: those of a record by
--                      itself, then that it follows o
--     last_event rs    the event of the last of the records rs, none where there is none
--     rules_at rs i    those of record i of rs, behind the event of the record before it, none for the first
--     records_rules rs  those of each record of rs in turn
--     block_rules bs   the rules that a block obeys, in the order in which they are tested: those of its
--                      size, with at most most_events records, then those of its records
--     events_of bs     the events of a block, in their order
--     events_or_fault bs  what opening a block answers: its events, or the first broken rule's fault
use Rattle.std.specs.Prelude.{ℕ, ◌-◌, Bool, true, List, [], ◌∷◌, ◌++◌, map, length, take, Some, None, Option, Result}
use Rattle.std.specs.Option.{option_map}
use Rattle.std.specs.List.{flat_map, range_with_len, slice_get}
use Rattle.faults.specs.declared.Fault.{Fault}
use Rattle.faults.specs.declared.Fault.TheVariants.{OutOfOrder}
use Rattle.faults.specs.Rules.{Rule, ruling}
use Rattle.records.specs.declared.event.Event.{Event}
use Rattle.records.specs.Events.{may_precede}
use Rattle.records.specs.Layout.{event_in, record_rules}
use Rattle.records.specs.Limits.{most_events}
use Rattle.blocks.specs.Rows.{record_at, records_of, size_rules}

abbrev pub may_follow : Option Event → Event → Bool
may_follow None e = true
may_follow (Some d) e = may_precede d e

abbrev pub rules_after : Option Event → ℕ → List ℕ → List Rule
rules_after o i r = record_rules i r ++ (may_follow o (event_in r), OutOfOrder i) ∷ []

abbrev pub last_event : List (List ℕ) → Option Event
last_event rs = option_map event_in (slice_get rs (length rs - 1))

abbrev pub rules_at : List (List ℕ) → ℕ → List Rule
rules_at rs i = rules_after (last_event (take i rs)) i (record_at rs i)

abbrev pub records_rules : List (List ℕ) → List Rule
records_rules rs = flat_map (rules_at rs) (range_with_len 0 (length rs))

abbrev pub block_rules : List ℕ → List Rule
block_rules bs = size_rules most_events bs ++ records_rules (records_of bs)

abbrev pub events_of : List ℕ → List Event
events_of bs = map event_in (records_of bs)

abbrev pub events_or_fault : List ℕ → Result (List Event) Fault
events_or_fault bs = ruling (block_rules bs) (events_of bs)
