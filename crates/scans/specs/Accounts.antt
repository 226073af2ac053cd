-- How board and queue account for the log, once k events are done and the clock is at minute t. Assumes nothing.
--     AllLater minute xs   the arrivals xs are all later than a minute
--     TakesDue minute ..   what taking an arrival that is due by a minute does, by its answer
--     IsQueued log k a     the arrival a is that of an entry for an event before k
--     IsIncumbentAt ..     x is the label of an entry for an event before k that leaves its traveller at stop s by t
--     IsDominated ..       the entry e for event j is ready by t, and who is ready at its stop is preferred
--     Accounts m w k t     with w in the tables: heaped: the queue is in heap order; wide: the board has a slot for each
--                          stop and call state; near: entries are for events before k; queued, incumbent: what queue
--                          and board hold are labels of entries; covered: every entry is awaited still, or dominated
use Rattle.std.specs.Prelude.{◌≡◌, ℕ, ◌<◌, ◌≤◌, Bool, true, ◌⊎◌, List, length, Some, None, Option}
use Rattle.std.specs.List.{ContainsAt, AllByRecursion}
use Rattle.records.specs.Limits.{board_slots, most_stops}
use Rattle.measures.specs.Measures.{Ops}
use Rattle.queue.specs.Order.{IsHeapOrdered}
use Rattle.queue.specs.Queue.{Takes, elements}
use Rattle.scans.specs.declared.arrival.Arrival.{Arrival}
use Rattle.scans.specs.declared.board.Incumbent.{Incumbent}
use Rattle.scans.specs.declared.entry.Entry.{Entry}
use Rattle.walks.specs.Logs.{is_preferred}
use Rattle.scans.specs.Arrivals.{arriving, sooner}
use Rattle.scans.specs.Boards.{entry_for, offer, ready_of, incumbent_at}
use Rattle.scans.specs.Tables.{Contents, arrivals_in}

abbrev pub AllLater : ℕ → List Arrival → Type 0
AllLater minute xs = AllByRecursion (λ a. minute < a.minute) xs

-- a due arrival was taken, or none is due and nothing changed
abbrev pub TakesDue : ℕ → List Arrival → ℕ → Option Arrival → List Arrival → ℕ → Type 0
TakesDue minute queue used (Some a) queue' used' =
    Takes sooner queue used a queue' used' × (IsHeapOrdered sooner (elements queue used) → a.minute ≤ minute)
TakesDue minute queue used None queue' used' =
    (queue' ≡ queue) × (used' ≡ used) × (IsHeapOrdered sooner (elements queue used) → AllLater minute (elements queue used))

module _ {L : Type 0} (m : Ops L) (log : List (Option (Entry L))) where
  abbrev pub IsQueued : ℕ → Arrival → Type 0
  IsQueued k a = (a.stage.event < k) × ((e : Entry L) × (entry_for log a.stage.event a.stage.called ≡ Some e) × (ready_of e ≡ a.minute))

  abbrev pub IsIncumbentAt : ℕ → ℕ → ℕ → Bool → Incumbent L → Type 0
  IsIncumbentAt k t s c x =
      (x.event < k) × ((e : Entry L) × (entry_for log x.event c ≡ Some e) × (e.label ≡ x.label) × (e.stop ≡ s) × (ready_of e ≤ t))

  abbrev pub IsDominated : List (Option (Incumbent L)) → ℕ → ℕ → Entry L → Bool → Type 0
  IsDominated board t j e c =
      (ready_of e ≤ t)
      × ((x : Incumbent L) × (incumbent_at board e.stop c ≡ Some x) × (is_preferred m (offer x) (e.label, Some j) ≡ true))

pub record Accounts {L : Type 0} (m : Ops L) (w : Contents L) (k t : ℕ) : Type 0 where
  pub heaped : IsHeapOrdered sooner (arrivals_in w)
  pub wide : board_slots ≤ length w.board
  pub near : (j : ℕ) (c : Bool) (e : Entry L) → entry_for w.log j c ≡ Some e → (j < k) × (e.stop < most_stops)
  pub queued : (a : Arrival) → ContainsAt (arrivals_in w) a → IsQueued m w.log k a
  pub incumbent : (s : ℕ) (c : Bool) (x : Incumbent L) → s < most_stops → incumbent_at w.board s c ≡ Some x → IsIncumbentAt m w.log k t s c x
  pub covered : (j : ℕ) (c : Bool) (e : Entry L)
      → entry_for w.log j c ≡ Some e
      → ContainsAt (arrivals_in w) (arriving (ready_of e) (record { event = j; called = c }))
      ⊎ IsDominated m w.log w.board t j e c
