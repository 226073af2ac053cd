-- Journeys as walks in a temporal graph. Assumes nothing.
-- A temporal graph has stops as its vertices: an edge leads from its tail to its head, and is passed
-- from its start on, in its duration. A ride is an edge; an opening is a loop at its stop that is
-- passed in no time: a stay.
--     TemporalEdge         an edge
--     edge_of e            the edge that an event is
--     edges_of es js       the edges that the events with the numbers js are
--     TemporalWalk ds      each edge's tail is the head of the one before it, and it starts when that one is
--                          passed, or later
--     stays ds             how many of the edges are passed in no time
--     WalkInWindow es p q js  js are numbers of events in force that are, as edges, a temporal walk
--                          from q's first stop to its second; not every edge is a stay, and exactly
--                          one is if a call is wanted, none otherwise; the first edge starts when
--                          q's window opens or later, the last is passed when it closes or earlier
--     WalksAreJourneys     in every timetable's list, the journeys that fit are exactly the temporal
--                          walks within the window
use Rattle.std.specs.Prelude.{◌≡◌, ℕ, ◌+◌, ◌<◌, ◌≤◌, Bool, List, map, length, count_by, ◌==◌}
use Rattle.std.specs.List.{AllByRecursion}
use Rattle.records.specs.declared.event.Event.{Event}
use Rattle.records.specs.declared.event.Event.TheVariants.{Opening, Ride}
use Rattle.records.specs.Events.{IsTimetable}
use Rattle.journeys.specs.declared.query.Query.{Query}
use Rattle.journeys.specs.Journeys.{AllNeighbours, Fits, last_number, first_number, event_numbered, one_if, IsKnown}

pub record TemporalEdge : Type 0 where
  pub tail : ℕ
  pub head : ℕ
  pub start : ℕ
  pub duration : ℕ

abbrev pub edge_of : Event → TemporalEdge
edge_of (Opening o) = record { tail = o.stop; head = o.stop; start = o.minute; duration = 0 }
edge_of (Ride r) = record { tail = r.from; head = r.to; start = r.departure; duration = r.duration }

abbrev pub edges_of : List Event → List ℕ → List TemporalEdge
edges_of es js = map (λ j. edge_of (event_numbered es j)) js

abbrev pub TemporalWalk : List TemporalEdge → Type 0
TemporalWalk ds = AllNeighbours (λ c d. (c.head ≡ d.tail) × (c.start + c.duration ≤ d.start)) ds

abbrev pub stays : List TemporalEdge → ℕ
stays ds = count_by (λ d. d.duration == 0) ds

pub record WalkInWindow (es : List Event) (p : ℕ → Bool) (q : Query) (js : List ℕ) : Type 0 where
  pub known : AllByRecursion (IsKnown es p) js
  pub walk : TemporalWalk (edges_of es js)
  pub moves : stays (edges_of es js) < length (edges_of es js)
  pub called : stays (edges_of es js) ≡ one_if q.call
  pub from : (edge_of (event_numbered es (first_number js))).tail ≡ q.from
  pub to : (edge_of (event_numbered es (last_number js))).head ≡ q.to
  pub opens : q.open ≤ (edge_of (event_numbered es (first_number js))).start
  pub closes : (edge_of (event_numbered es (last_number js))).start + (edge_of (event_numbered es (last_number js))).duration ≤ q.close

abbrev pub WalksAreJourneys : Type 0
WalksAreJourneys =
    (es : List Event) (p : ℕ → Bool) (q : Query) (js : List ℕ)
    → IsTimetable es
    → (Fits es p q js → WalkInWindow es p q js) × (WalkInWindow es p q js → Fits es p q js)
