-- How long a chain of linked events takes, and within which limits.
use Rattle.std.proofs.Common.{◌≡◌, ℕ, ◌+◌, ◌≤◌, Bool, List, [], ◌∷◌, refl, arith}
use Rattle.std.proofs.ByRecursion.{All-get_or}
use Rattle.std.specs.List.{AllByRecursion}
use Rattle.records.specs.declared.event.Event.{Event}
use Rattle.records.specs.declared.event.Event.TheVariants.{Opening, Ride}
use Rattle.records.specs.Events.{IsTimetable, IsWithinLimits, time_of}
use Rattle.records.specs.Limits.{last_minute, longest_ride}
use Rattle.records.proofs.Bounds.{event_bounds}
use Rattle.journeys.specs.declared.query.Query.{Query}
use Rattle.journeys.specs.Journeys.{AllNeighbours, Journey, Link, WaitingIsGaps, beginning, end_of, ending, last_number_from, gaps, minutes, event_numbered, one_if_ride, rides, riding, IsKnown}

-- an event takes its minutes
end_of_minutes : (e : Event) → end_of e ≡ time_of e + minutes e
end_of_minutes (Opening o) = omega arith
end_of_minutes (Ride r) = refl

-- a linked chain takes the minutes of its events and the gaps between them
pub ending-sum : (es : List Event) (j : ℕ) (js : List ℕ) → AllNeighbours (Link es) (j ∷ js) → ending es (j ∷ js) ≡ time_of (event_numbered es j) + riding es (j ∷ js) + gaps es (j ∷ js)
ending-sum es j [] c = omega (arith, end_of_minutes (event_numbered es j))
ending-sum es j (k ∷ ks) c =
    omega (arith, end_of_minutes (event_numbered es j), c.0.1, ending-sum es k ks c.1)

pub waiting_is_gaps : WaitingIsGaps
waiting_is_gaps es p q [] h = absurd (omega (arith, h.ridden))
waiting_is_gaps es p q (j ∷ js) h = omega (arith, ending-sum es j js h.linked)

-- what the limits say of an event
pub within_ends : (e : Event) → IsWithinLimits e → end_of e ≤ last_minute
within_ends (Opening o) w = event_bounds 0 (Opening o) w.0
within_ends (Ride r) w = (event_bounds 0 (Ride r) w.0).1

pub within_ride : (e : Event) → IsWithinLimits e → one_if_ride e ≤ minutes e
within_ride (Opening o) w = omega arith
within_ride (Ride r) w = (event_bounds 0 (Ride r) w.0).0.lasts

pub within_long : (e : Event) → IsWithinLimits e → minutes e ≤ longest_ride
within_long (Opening o) w = omega arith
within_long (Ride r) w = (event_bounds 0 (Ride r) w.0).0.short

module _ (es : List Event) (p : ℕ → Bool) (listed : IsTimetable es) where
  pub known_within : (j : ℕ) → IsKnown es p j → IsWithinLimits (event_numbered es j)
  known_within j k = All-get_or IsWithinLimits es j (event_numbered [] 0) k.0 listed.within

  pub known_final : (j : ℕ) (js : List ℕ) → AllByRecursion (IsKnown es p) (j ∷ js) → IsKnown es p (last_number_from j js)
  known_final j [] a = a.0
  known_final j (k ∷ ks) a = known_final k ks a.1

  rides-riding : (js : List ℕ) → AllByRecursion (IsKnown es p) js → rides es js ≤ riding es js
  rides-riding [] a = omega arith
  rides-riding (j ∷ js) a = omega (arith, within_ride (event_numbered es j) (known_within j a.0), rides-riding js a.1)

  -- a journey's sums are within a timetable's minutes
  pub journey_span : (q : Query) (js : List ℕ) → Journey es p q js → (beginning es js + riding es js ≤ ending es js) × (ending es js ≤ last_minute) × (rides es js ≤ riding es js)
  journey_span q [] h = absurd (omega (arith, h.ridden))
  journey_span q (j ∷ js) h = (
    omega (arith, ending-sum es j js h.linked),
    within_ends (event_numbered es (last_number_from j js)) (known_within (last_number_from j js) (known_final j js h.known)),
    rides-riding (j ∷ js) h.known,
  )
