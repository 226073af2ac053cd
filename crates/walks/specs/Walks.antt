-- Walks: how a traveller comes through the events, one after another. Assumes nothing.
-- es, p, q and m are as for journeys and scores: events, what is in force, the query, the measure.
--     Traveller L          where a traveller is after a walk: the stop, the end of the last event, the
--                          moment from which it goes on, whether the call was made, and the label
--     outset m e           a traveller who is where e begins, as it starts, with nothing done yet
--     traveller_after m e t  the traveller t after the event e
--     Starts es p q i      a walk may begin with event i: it is in force, leaves q's first stop, and does not
--                          start before q's window
--     CanTake e t          t can take e: it is where t is, does not start before t is ready, and, if an opening, t has
--                          made no call
--     Walk m es p q t js   the events js, one after another, make a walk after which the traveller is t
--     ArrivesRightly q t   t ends as q asks: at its second stop, within its window, with the call made if
--                          one is wanted and not made otherwise
--     FitsBy m es p q t js  js fits, and t has its label and its end
--     WalksFit m           the journeys that fit are exactly the walks that end rightly
--     Exchange m           of two walks that can go on with the same event, both or neither with the call made,
--                          the one with the no-worse label can take the other's place, and stays no worse
use Rattle.std.specs.Prelude.{◌≡◌, ℕ, ◌<◌, ◌≤◌, Bool, true, false, ◌||◌, List, [], ◌∷◌, ◌++◌, length, ◌≢◌}
use Rattle.records.specs.declared.event.Event.{Event}
use Rattle.records.specs.Events.{IsTimetable, is_opening}
use Rattle.measures.specs.Measures.{Ops}
use Rattle.journeys.specs.declared.query.Query.{Query}
use Rattle.journeys.specs.Formulas.{label_of, through}
use Rattle.journeys.specs.Journeys.{Fits, end_of, ending, leaves_at, event_numbered, reaches_at, ready_at, starts_at, IsKnown}

pub record Traveller (L : Type 0) : Type 0 where
  pub stop : ℕ
  pub end : ℕ
  pub ready : ℕ
  pub called : Bool
  pub label : L

abbrev pub outset : {L : Type 0} → Ops L → Event → Traveller L
outset m e = record { stop = leaves_at e; end = starts_at e; ready = starts_at e; called = false; label = m.begin (starts_at e) }

abbrev pub traveller_after : {L : Type 0} → Ops L → Event → Traveller L → Traveller L
traveller_after m e t =
    record {
      stop = reaches_at e;
      end = end_of e;
      ready = ready_at e;
      called = t.called || is_opening e;
      label = through m e t.label;
    }

abbrev pub Starts : List Event → (ℕ → Bool) → Query → ℕ → Type 0
Starts es p q i = IsKnown es p i × (leaves_at (event_numbered es i) ≡ q.from) × (q.open ≤ starts_at (event_numbered es i))

abbrev pub CanTake : {L : Type 0} → Event → Traveller L → Type 0
CanTake e t = (leaves_at e ≡ t.stop) × (t.ready ≤ starts_at e) × (is_opening e ≡ true → t.called ≡ false)

pub data Walk {L : Type 0} (m : Ops L) (es : List Event) (p : ℕ → Bool) (q : Query) : Traveller L → List ℕ → Type 0 where
  begins : (i : ℕ) → Starts es p q i → Walk m es p q (traveller_after m (event_numbered es i) (outset m (event_numbered es i))) (i ∷ [])
  goes_on : {t : Traveller L} {js : List ℕ} → Walk m es p q t js → (i : ℕ) → IsKnown es p i → CanTake (event_numbered es i) t → Walk m es p q (traveller_after m (event_numbered es i) t) (js ++ i ∷ [])

abbrev pub ArrivesRightly : {L : Type 0} → Query → Traveller L → Type 0
ArrivesRightly q t = (t.called ≡ q.call) × (t.stop ≡ q.to) × (t.end ≤ q.close)

abbrev pub FitsBy : {L : Type 0} → Ops L → List Event → (ℕ → Bool) → Query → Traveller L → List ℕ → Type 0
FitsBy m es p q t js = Fits es p q js × (t.label ≡ label_of m es js) × (t.end ≡ ending es js)

abbrev pub WalksFit : {L : Type 0} → Ops L → Type 0
WalksFit {L} m =
    (es : List Event) (p : ℕ → Bool) (q : Query) (js : List ℕ)
    → IsTimetable es
    → (q.from ≢ q.to)
    → (Fits es p q js → (t : Traveller L) × Walk m es p q t js × ArrivesRightly q t)
    × ((t : Traveller L) → Walk m es p q t js → ArrivesRightly q t → FitsBy m es p q t js)

abbrev pub Exchange : {L : Type 0} → Ops L → Type 0
Exchange {L} m =
    (es : List Event) (p : ℕ → Bool) (q : Query) (t u : Traveller L) (js ks : List ℕ) (i : ℕ)
    → IsTimetable es
    → Walk m es p q t js
    → Walk m es p q u ks
    → t.called ≡ u.called
    → IsKnown es p i
    → CanTake (event_numbered es i) t
    → CanTake (event_numbered es i) u
    → m.no_worse t.label u.label ≡ true
    → Walk m es p q (traveller_after m (event_numbered es i) t) (js ++ i ∷ [])
    × ((traveller_after m (event_numbered es i) t).called ≡ (traveller_after m (event_numbered es i) u).called)
    × (m.no_worse (traveller_after m (event_numbered es i) t).label (traveller_after m (event_numbered es i) u).label ≡ true)
