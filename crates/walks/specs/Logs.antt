-- A log of best labels, and what follows of it. Assumes nothing.
-- es, p, q and m are as for walks. A log has, for an event and a call state, a label and its predecessor, or nothing.
-- A call state is whether the call was made. `..` stands for the arguments of a definition.
--     Predecessor          where a label came from: a fresh start, or an earlier event in a call state
--     Log L                the log
--     Passes e c c'        the event e takes a traveller from call state c to c': a ride keeps it, an opening makes the call
--     IsCandidate m es p q g i c l o  the label l, from the predecessor o, can be had at event i with call
--                          state c: by a fresh start, or from an entry of the log g at an earlier event
--                          that event i, in force, can follow
--     number_of o          the number of the event that a predecessor is, none for a fresh start
--     is_preferred m x y   whether the label x is taken rather than y, each with the number of the event that it comes
--                          from, none for a fresh start: x is, where it is no worse, whatever the numbers
--     IsBestEntry ..       an entry that is a candidate, and is preferred to every candidate
--     IsRightAt ..         the log has a best entry for event and call state, or none and there is no candidate
--     IsRight m es p q g n  up to event n, each entry of g is a best one, and there is none only where
--                          there is no candidate
--     TracesBack g i c js  following predecessors back from event i in call state c spells js
--     Covers ..            every walk that ends with an event before n is covered: there is an entry for
--                          that event and call state, and it is no worse
--     Spells ..            every entry before n is the label of a walk that tracing spells
--     AllLate q es n       every event from n on is later than q's close
--     EndsRightly ..       the entry at i before n ends as q asks
--     outcome m i l t      the score of the label l, settled at its end t, with the number i of its journey's last event
--     IsAhead x y          of two scores, each with the number of a last event, x leads over y: it is not higher, whatever the
--                          numbers
--     IsLowest ..          it is ahead of every entry that ends rightly
--     LogIsGlobal m        a right log covers every walk and spells one for each entry
--     LogGivesBest m       where q's stops differ, and the events from n on are all too late: an entry that
--                          ends rightly and has the lowest settled score of all that do gives the best
--                          score of the journeys that fit, by a journey that tracing spells; and no entry
--                          ends rightly exactly where no journey fits
--     first_late es c      the number of the first event that is later than minute c; where none is, how many
--                          events there are
--     StoppingLosesNothing  every event from first_late on is later than q's close, and no journey that fits
--                          goes on to one of them
--     MeasuresGiveBest     LogGivesBest of each measure
use Rattle.std.specs.Prelude.{◌≡◌, ℕ, suc, ◌<◌, ◌≤◌, Bool, true, false, List, [], ◌∷◌, ◌++◌, length, Some, None, Option, ◌≢◌, nat_le, if◌then◌else◌}
use Rattle.records.specs.declared.event.Event.{Event}
use Rattle.records.specs.Events.{is_opening, IsTimetable, time_of}
use Rattle.measures.specs.Measures.{Ops, Score, ◌≼◌}
use Rattle.measures.specs.declared.criterion.Criterion.{Criterion}
use Rattle.measures.specs.Criteria.{ops}
use Rattle.journeys.specs.declared.query.Query.{Query}
use Rattle.journeys.specs.Best.{IsLowerBound, NothingFits}
use Rattle.journeys.specs.Formulas.{score_of, through}
use Rattle.journeys.specs.Journeys.{end_of, event_numbered, Fits, IsKnown, last_number, Link, reaches_at, starts_at}
use Rattle.walks.specs.Walks.{Starts, Traveller, Walk}

pub data Predecessor : Type 0 where
  start : Predecessor
  after : ℕ → Bool → Predecessor

abbrev pub Log : Type 0 → Type 0
Log L = ℕ → Bool → Option (L × Predecessor)

abbrev pub number_of : Predecessor → Option ℕ
number_of start = None
number_of (after j b) = Some j

abbrev pub is_preferred : {L : Type 0} → Ops L → L × Option ℕ → L × Option ℕ → Bool
is_preferred m x y = m.no_worse x.0 y.0

-- the call state after an event: an opening makes the call, and only where it was not made
pub data Passes (e : Event) : Bool → Bool → Type 0 where
  rides : (c : Bool) → is_opening e ≡ false → Passes e c c
  calls : is_opening e ≡ true → Passes e false true

module _ {L : Type 0} (m : Ops L) (es : List Event) (p : ℕ → Bool) (q : Query) where
  pub data IsCandidate (g : Log L) (i : ℕ) (c : Bool) : L → Predecessor → Type 0 where
    fresh : Starts es p q i → is_opening (event_numbered es i) ≡ c → IsCandidate g i c (through m (event_numbered es i) (m.begin (starts_at (event_numbered es i)))) start
    linked : (j : ℕ) (b : Bool) (l : L) (o : Predecessor) → IsKnown es p i → j < i → Link es j i → Passes (event_numbered es i) b c → g j b ≡ Some (l, o) → IsCandidate g i c (through m (event_numbered es i) l) (after j b)

  abbrev pub IsBestEntry : Log L → ℕ → Bool → L × Predecessor → Type 0
  IsBestEntry g i c x =
      IsCandidate g i c x.0 x.1
      × ((l : L) (o : Predecessor) → IsCandidate g i c l o → is_preferred m (x.0, number_of x.1) (l, number_of o) ≡ true)

  abbrev pub IsRightAt : Log L → ℕ → Bool → Option (L × Predecessor) → Type 0
  IsRightAt g i c (Some x) = IsBestEntry g i c x
  IsRightAt g i c None = (l : L) (o : Predecessor) → IsCandidate g i c l o → ⊥

  abbrev pub IsRight : Log L → ℕ → Type 0
  IsRight g n = (i : ℕ) (c : Bool) → i < n → IsRightAt g i c (g i c)

  abbrev pub Covers : Log L → ℕ → Type 0
  Covers g n =
      (t : Traveller L) (js : List ℕ)
      → Walk m es p q t js
      → last_number js < n
      → (l : L) × (o : Predecessor) × (g (last_number js) t.called ≡ Some (l, o)) × (m.no_worse l t.label ≡ true)

pub data TracesBack {L : Type 0} (g : Log L) : ℕ → Bool → List ℕ → Type 0 where
  first : (i : ℕ) (c : Bool) (l : L) → g i c ≡ Some (l, start) → TracesBack g i c (i ∷ [])
  then : (i : ℕ) (c : Bool) (l : L) (j : ℕ) (b : Bool) (js : List ℕ) → g i c ≡ Some (l, after j b) → TracesBack g j b js → TracesBack g i c (js ++ i ∷ [])

abbrev pub AllLate : Query → List Event → ℕ → Type 0
AllLate q es n = (i : ℕ) → n ≤ i → i < length es → q.close < time_of (event_numbered es i)

abbrev pub first_late : List Event → ℕ → ℕ
first_late [] c = 0
first_late (e ∷ es) c = if nat_le (time_of e) c then suc (first_late es c) else 0

abbrev pub outcome : {L : Type 0} → Ops L → ℕ → L → ℕ → Score × ℕ
outcome m i l t = (m.settle l t, i)

abbrev pub IsAhead : Score × ℕ → Score × ℕ → Type 0
IsAhead x y = x.0 ≼ y.0

abbrev pub StoppingLosesNothing : Type 0
StoppingLosesNothing =
    (es : List Event) (p : ℕ → Bool) (q : Query)
    → IsTimetable es
    → AllLate q es (first_late es q.close)
    × ((js : List ℕ) → Fits es p q js → last_number js < first_late es q.close)

module _ {L : Type 0} (m : Ops L) where
  abbrev pub Spells : List Event → (ℕ → Bool) → Query → Log L → ℕ → Type 0
  Spells es p q g n =
      (i : ℕ) (c : Bool) (l : L) (o : Predecessor)
      → i < n
      → g i c ≡ Some (l, o)
      → (js : List ℕ) × (t : Traveller L) × TracesBack g i c js × Walk m es p q t js × (last_number js ≡ i) × (t.called ≡ c) × (t.label ≡ l)

  abbrev pub LogIsGlobal : Type 0
  LogIsGlobal =
      (es : List Event) (p : ℕ → Bool) (q : Query) (g : Log L) (n : ℕ)
      → IsTimetable es
      → IsRight m es p q g n
      → Covers m es p q g n × Spells es p q g n

  abbrev pub EndsRightly : List Event → Query → Log L → ℕ → ℕ → L → Predecessor → Type 0
  EndsRightly es q g n i l o =
      (i < n) × (g i q.call ≡ Some (l, o)) × (reaches_at (event_numbered es i) ≡ q.to) × (end_of (event_numbered es i) ≤ q.close)

  abbrev pub IsLowest : List Event → Query → Log L → ℕ → ℕ → L → Type 0
  IsLowest es q g n i l =
      (j : ℕ) (k : L) (o : Predecessor)
      → EndsRightly es q g n j k o
      → IsAhead (outcome m i l (end_of (event_numbered es i))) (outcome m j k (end_of (event_numbered es j)))

  abbrev pub LogGivesBest : Type 0
  LogGivesBest =
      (es : List Event) (p : ℕ → Bool) (q : Query) (g : Log L) (n : ℕ)
      → IsTimetable es
      → (q.from ≢ q.to)
      → IsRight m es p q g n
      → AllLate q es n
      → ((i : ℕ) (l : L) (o : Predecessor) → EndsRightly es q g n i l o → IsLowest es q g n i l
      → ((js : List ℕ) × TracesBack g i q.call js × Fits es p q js × (score_of m es js ≡ m.settle l (end_of (event_numbered es i))))
      × IsLowerBound m es p q (m.settle l (end_of (event_numbered es i))))
      × (NothingFits es p q → (i : ℕ) (l : L) (o : Predecessor) → EndsRightly es q g n i l o → ⊥)
      × (((i : ℕ) (l : L) (o : Predecessor) → EndsRightly es q g n i l o → ⊥) → NothingFits es p q)

abbrev pub MeasuresGiveBest : Type 0
MeasuresGiveBest = (k : Criterion) → LogGivesBest (ops k)
