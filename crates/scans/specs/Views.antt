-- The log's table as a log of best labels. Assumes nothing.
--     predecessor_of o     the predecessor of an entry that came from the stage o, or of one with which a journey begins
--     log_entry e          an entry's label with its predecessor
--     view log             the table by event and call state
--     Agrees es log        each entry has the stop that its event reaches, and the event's end
use Rattle.std.specs.Prelude.{◌≡◌, ℕ, Bool, List, Some, None, Option}
use Rattle.std.specs.Option.{option_map}
use Rattle.records.specs.declared.event.Event.{Event}
use Rattle.journeys.specs.Journeys.{end_of, event_numbered, reaches_at}
use Rattle.walks.specs.Logs.{Log, after, start}
use Rattle.walks.specs.Logs as logs
use Rattle.scans.specs.declared.entry.Entry.{Entry}
use Rattle.scans.specs.declared.entry.Stage.{Stage}
use Rattle.scans.specs.Boards.{entry_for}

abbrev pub predecessor_of : Option Stage → logs.Predecessor
predecessor_of None = start
predecessor_of (Some s) = after s.event s.called

abbrev pub log_entry : {L : Type 0} → Entry L → L × logs.Predecessor
log_entry e = (e.label, predecessor_of e.predecessor)

abbrev pub view : {L : Type 0} → List (Option (Entry L)) → Log L
view log i c = option_map log_entry (entry_for log i c)

abbrev pub Agrees : {L : Type 0} → List Event → List (Option (Entry L)) → Type 0
Agrees {L} es log =
    (j : ℕ) (c : Bool) (e : Entry L)
    → entry_for log j c ≡ Some e
    → (e.stop ≡ reaches_at (event_numbered es j)) × (e.end ≡ end_of (event_numbered es j))
