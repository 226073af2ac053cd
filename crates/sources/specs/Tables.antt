-- A table whose front is a timetable's list of events. Assumes nothing.
--     blank_event      what stands in the part of a table that is not filled
--     front_of table n  the first n events of a table
use Rattle.std.specs.Prelude.{ℕ, List, take}
use Rattle.records.specs.declared.event.Event.{Event}
use Rattle.records.specs.Events.{opening_event}

abbrev pub blank_event : Event
blank_event = opening_event 0 0

abbrev pub front_of : List Event → ℕ → List Event
front_of table n = take n table
