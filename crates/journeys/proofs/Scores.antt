-- The scores under the measures, by their plain formulas.
use Rattle.std.proofs.Common.{◌≡◌, ℕ, ◌+◌, ◌^◌, ◌<◌, ◌≤◌, Bool, List, [], ◌∷◌, pos, ◌-ℤ◌, refl, ap, ◌∙◌, arith}
use Rattle.std.proofs.lemmas.Int.{ints}
use Rattle.records.specs.declared.event.Event.{Event}
use Rattle.records.specs.declared.event.Event.TheVariants.{Opening, Ride}
use Rattle.records.specs.Events.{IsTimetable}
use Rattle.measures.specs.declared.by_trip.Trip.{Trip}
use Rattle.measures.specs.Measures.{Ops}
use Rattle.measures.specs.declared.criterion.Criterion.TheVariants.{EarliestArrival, Fastest, FewestRides, LatestDeparture, LeastRiding, LeastWaiting}
use Rattle.measures.specs.Criteria.{capped_sum, earliest, fastest, fewest_rides, latest, least_riding, least_waiting}
use Rattle.records.specs.Limits.{last_minute}
use Rattle.journeys.specs.declared.query.Query.{Query}
use Rattle.journeys.specs.Formulas.{MeasuresArePlain, along, label_of, through}
use Rattle.journeys.specs.Journeys.{Journey, beginning, ending, minutes, event_numbered, one_if_ride, rides, riding, total, waiting}
use Rattle.journeys.proofs.Spans.{journey_span}

-- a label that rides leave as it is
module _ {L : Type 0} (m : Ops L) (still : (l : L) (d : ℕ) → m.ride l d ≡ l) where
  through_still : (e : Event) (l : L) → through m e l ≡ l
  through_still (Opening o) l = refl
  through_still (Ride t) l = still l t.duration

  along_still : (es : List Event) (l : L) (js : List ℕ) → along m es l js ≡ l
  along_still es l [] = refl
  along_still es l (j ∷ js) = along_still es (through m (event_numbered es j) l) js ∙ through_still (event_numbered es j) l

-- a label that grows by what each event adds, as long as the sum stays below the cap
module _ (m : Ops ℕ) (add : Event → ℕ) (adds : (e : Event) (l : ℕ) → l + add e < 2 ^ 32 → through m e l ≡ l + add e) where
  along-sum : (es : List Event) (l : ℕ) (js : List ℕ) → l + total (λ j. add (event_numbered es j)) js < 2 ^ 32 → along m es l js ≡ l + total (λ j. add (event_numbered es j)) js
  along-sum es l [] h = omega arith
  along-sum es l (j ∷ js) h =
      let e = adds (event_numbered es j) l (omega arith) in
      let r = along-sum es (l + add (event_numbered es j)) js (omega arith) in
      ap (λ x. along m es x js) e ∙ r ∙ omega arith

riding_adds : (m : Ops ℕ) → ((l d : ℕ) → m.ride l d ≡ capped_sum l d) → (e : Event) (l : ℕ) → l + minutes e < 2 ^ 32 → through m e l ≡ l + minutes e
riding_adds m r (Opening o) l h = omega arith
riding_adds m r (Ride t) l h = r l t.duration ∙ omega arith

ride_adds : (e : Event) (l : ℕ) → l + one_if_ride e < 2 ^ 32 → through fewest_rides e l ≡ l + one_if_ride e
ride_adds (Opening o) l h = omega arith
ride_adds (Ride t) l h = omega arith

-- the two parts of a trip: its begin stays, its riding grows
trip : ℕ → ℕ → Trip
trip b r = record { begin = b; riding = r }

trip_adds : (e : Event) (b r : ℕ) → r + minutes e < 2 ^ 32 → through fastest e (trip b r) ≡ trip b (r + minutes e)
unfolding trip
trip_adds (Opening o) b r h = ap (trip b) (omega arith)
trip_adds (Ride t) b r h = ap (trip b) (omega arith)

trip_along : (es : List Event) (b r : ℕ) (js : List ℕ) → r + riding es js < 2 ^ 32 → along fastest es (trip b r) js ≡ trip b (r + riding es js)
trip_along es b r [] h = ap (trip b) (omega arith)
trip_along es b r (j ∷ js) h =
    let e = trip_adds (event_numbered es j) b r (omega arith) in
    let i = trip_along es b (r + minutes (event_numbered es j)) js (omega arith) in
    ap (λ x. along fastest es x js) e ∙ i ∙ ap (trip b) (omega arith)

module _ (es : List Event) (p : ℕ → Bool) (q : Query) (js : List ℕ) (listed : IsTimetable es) (h : Journey es p q js) where
  span : (beginning es js + riding es js ≤ ending es js) × (ending es js ≤ last_minute) × (rides es js ≤ riding es js)
  span = journey_span es p listed q js h

  label_fastest : label_of fastest es js ≡ record { begin = beginning es js; riding = riding es js }
  unfolding trip
  label_fastest = trip_along es (beginning es js) 0 js (omega (arith, span.0, span.1)) ∙ ap (trip (beginning es js)) (omega arith)

  label_riding : label_of least_riding es js ≡ riding es js
  label_riding = along-sum least_riding minutes (riding_adds least_riding (λ l d. refl)) es 0 js (omega (arith, span.0, span.1)) ∙ omega arith

  label_rides : label_of fewest_rides es js ≡ rides es js
  label_rides = along-sum fewest_rides one_if_ride ride_adds es 0 js (omega (arith, span.0, span.1, span.2)) ∙ omega arith

  label_waiting : label_of least_waiting es js ≡ beginning es js + riding es js
  label_waiting =
      along-sum least_waiting minutes (riding_adds least_waiting (λ l d. refl)) es (beginning es js) js (omega (arith, span.0, span.1))

  -- what is left of the end after begin and riding
  waited : pos (ending es js) -ℤ pos (beginning es js + riding es js) ≡ pos (waiting es js)
  waited = omega (arith, ints, span.0)

pub measures_plain : MeasuresArePlain
measures_plain EarliestArrival es p q js listed h =
    ap (λ l. earliest.settle l (ending es js)) (along_still earliest (λ l d. refl) es (beginning es js) js)
measures_plain LatestDeparture es p q js listed h =
    ap (λ l. latest.settle l (ending es js)) (along_still latest (λ l d. refl) es (beginning es js) js)
measures_plain Fastest es p q js listed h =
    ap (λ l. fastest.settle l (ending es js)) (label_fastest es p q js listed h)
measures_plain LeastRiding es p q js listed h =
    ap (λ l. least_riding.settle l (ending es js)) (label_riding es p q js listed h)
measures_plain FewestRides es p q js listed h =
    ap (λ l. fewest_rides.settle l (ending es js)) (label_rides es p q js listed h)
measures_plain LeastWaiting es p q js listed h =
    ap (λ l. least_waiting.settle l (ending es js)) (label_waiting es p q js listed h)
    ∙ ap (λ z. (z, pos (ending es js))) (waited es p q js listed h)
