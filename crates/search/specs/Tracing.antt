-- Following predecessors back through the log. Assumes nothing.
--     IsBackward log       every predecessor that an entry names is an earlier event than the entry's own
--     before_entry e       the stage from which an entry came, none where its event is the journey's first
--     stage_before log s   the stage before s: an earlier event and the call state then
use Rattle.std.specs.Prelude.{◌≡◌, ℕ, ◌<◌, Bool, List, Some, None, Option}
use Rattle.scans.specs.declared.entry.Entry.{Entry}
use Rattle.scans.specs.declared.entry.Stage.{Stage}
use Rattle.scans.specs.Boards.{entry_for}

abbrev pub IsBackward : {L : Type 0} → List (Option (Entry L)) → Type 0
IsBackward {L} log = (i : ℕ) (c : Bool) (e : Entry L) (s : Stage) → entry_for log i c ≡ Some e → e.predecessor ≡ Some s → s.event < i

abbrev pub before_entry : {L : Type 0} → Option (Entry L) → Option Stage
before_entry None = None
before_entry (Some e) = e.predecessor

abbrev pub stage_before : {L : Type 0} → List (Option (Entry L)) → Stage → Option Stage
stage_before log s = before_entry (entry_for log s.event s.called)
