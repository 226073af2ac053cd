-- What a search has once k events are done and the clock is at minute t. Assumes nothing.
-- w and w' are what its tables hold, before and after.
--     WritesEntry r s w w'  the entry r, if there is one, is written for the stage s and its arrival awaited; if there is
--                          none, nothing changes
--     IsRightUpTo .. w     board and queue account for the log, its entries agree with their events, and it is
--                          right: each entry is a best one
--     Scans .. w w'        a search that is right up to event k is right up to the next
--     HasRoom k w          the log has slots for event k, and the queue two that are free
--     ScansOrRefuses .. w r w'  what a scan does, by its answer: there is room and it is made, with at most two slots
--                          more in use; or there is none, and everything is unchanged
use Rattle.std.specs.Prelude.{◌≡◌, ℕ, ◌+◌, ◌<◌, ◌≤◌, Bool, true, List, length, Some, None, Ok, Err, Option, Result, slice_set}
use Rattle.faults.specs.declared.Fault.{Fault}
use Rattle.faults.specs.declared.Fault.TheVariants.{WorkTableTooShort}
use Rattle.records.specs.declared.event.Event.{Event}
use Rattle.records.specs.Events.{IsTimetable, time_of}
use Rattle.measures.specs.Measures.{Ops}
use Rattle.journeys.specs.declared.query.Query.{Query}
use Rattle.journeys.specs.Journeys.{event_numbered}
use Rattle.queue.specs.Queue.{Adds}
use Rattle.walks.specs.Logs.{IsRight}
use Rattle.scans.specs.declared.entry.Entry.{Entry}
use Rattle.scans.specs.declared.entry.Stage.{Stage}
use Rattle.scans.specs.Accounts.{Accounts}
use Rattle.scans.specs.Arrivals.{arriving, sooner}
use Rattle.scans.specs.Boards.{ready_of, slot_of}
use Rattle.scans.specs.Tables.{Contents}
use Rattle.scans.specs.Views.{Agrees, view}

abbrev pub WritesEntry : {L : Type 0} → Option (Entry L) → Stage → Contents L → Contents L → Type 0
WritesEntry None s w w' = w' ≡ w
WritesEntry (Some e) s w w' =
    (w'.log ≡ slice_set w.log (slot_of s.event s.called) (Some e))
    × (w'.board ≡ w.board)
    × Adds sooner w.queue w.used (arriving (ready_of e) s) w'.queue w'.used

pub record IsRightUpTo {L : Type 0} (m : Ops L) (es : List Event) (p : ℕ → Bool) (q : Query) (k t : ℕ) (w : Contents L) : Type 0 where
  pub accounts : Accounts m w k t
  pub agrees : Agrees es w.log
  pub right : IsRight m es p q (view w.log) k

abbrev pub Scans : {L : Type 0} → Ops L → Query → ℕ → Event → Bool → Contents L → Contents L → Type 0
Scans m q k e force w w' =
    (es : List Event) (p : ℕ → Bool) (t : ℕ)
    → IsTimetable es
    → k < length es
    → event_numbered es k ≡ e
    → p k ≡ force
    → t ≤ time_of e
    → IsRightUpTo m es p q k t w
    → IsRightUpTo m es p q (k + 1) (time_of e) w'

abbrev pub HasRoom : {L : Type 0} → ℕ → Contents L → Type 0
HasRoom k w = (slot_of k true < length w.log) × (w.used + 1 < length w.queue)

abbrev pub ScansOrRefuses : {L : Type 0} → Ops L → Query → ℕ → Event → Bool → Contents L → Result (Unit {0}) Fault → Contents L → Type 0
ScansOrRefuses m q k e force w (Ok _) w' = HasRoom k w × Scans m q k e force w w' × (w'.used ≤ w.used + 2)
ScansOrRefuses m q k e force w (Err f) w' = (HasRoom k w → ⊥) × (f ≡ WorkTableTooShort) × (w' ≡ w)
