-- The log and the board, by event, stop and call state. Assumes nothing.
--     slot_of i c          the slot of event or stop i in call state c: two for each
--     entry_for log i c    the entry for event i in call state c
--     ready_of e           the minute from which the traveller of the entry e can go on
--     incumbent_at board s c  who is ready at stop s in call state c
--     offer x              the label of x, who is ready, and the number of the event that brought it
--     winner m s x         x, unless s, which is there already, is preferred
--     board_after m log b a  the board b once the arrival a is there: its entry's label is at its stop,
--                          unless the one that is there is preferred
--     board_with m b a r   the same, with r as the entry of the arrival, if there is one
use Rattle.std.specs.Prelude.{ℕ, ◌+◌, ◌*◌, Bool, List, Some, None, Option, slice_index_or, slice_set, if◌then◌else◌}
use Rattle.measures.specs.Measures.{Ops}
use Rattle.journeys.specs.Journeys.{one_if}
use Rattle.walks.specs.Logs.{is_preferred}
use Rattle.scans.specs.declared.arrival.Arrival.{Arrival}
use Rattle.scans.specs.declared.board.Incumbent.{Incumbent}
use Rattle.scans.specs.declared.entry.Entry.{Entry}

abbrev pub slot_of : ℕ → Bool → ℕ
slot_of i c = i * 2 + one_if c

abbrev pub entry_for : {L : Type 0} → List (Option (Entry L)) → ℕ → Bool → Option (Entry L)
entry_for log i c = slice_index_or log (slot_of i c) None

abbrev pub ready_of : {L : Type 0} → Entry L → ℕ
ready_of e = e.end

abbrev pub incumbent_at : {L : Type 0} → List (Option (Incumbent L)) → ℕ → Bool → Option (Incumbent L)
incumbent_at board s c = slice_index_or board (slot_of s c) None

abbrev pub offer : {L : Type 0} → Incumbent L → L × Option ℕ
offer x = (x.label, Some x.event)

abbrev pub winner : {L : Type 0} → Ops L → Option (Incumbent L) → Incumbent L → Incumbent L
winner m None x = x
winner m (Some y) x = if is_preferred m (offer y) (offer x) then y else x

abbrev pub board_with : {L : Type 0} → Ops L → List (Option (Incumbent L)) → Arrival → Option (Entry L) → List (Option (Incumbent L))
board_with m board a None = board
board_with m board a (Some e) =
    slice_set board (slot_of e.stop a.stage.called) (Some (winner m (incumbent_at board e.stop a.stage.called) (record { label = e.label; event = a.stage.event })))

abbrev pub board_after : {L : Type 0} → Ops L → List (Option (Entry L)) → List (Option (Incumbent L)) → Arrival → List (Option (Incumbent L))
board_after m log board a = board_with m board a (entry_for log a.stage.event a.stage.called)
