-- What the limits of events say, by name, and at any place.
--     RideBounds r     what the rules of a ride's stops and duration say
--     EventBounds e    what the limits of an event say
--     RecordBounds p bs  what the rules of a record by itself say
use Rattle.std.proofs.Common.{◌≡◌, ℕ, ◌<◌, ◌≤◌, not, ◌||◌, eqb, leb, true, List, [], ◌∷◌, get_or, refl, ⊎_elim, ◌&&◌}
use Rattle.std.proofs.lemmas.Bool.{and_parts, cases_Bool, le-leb, leb-true}
use Rattle.faults.proofs.Rules.{kept_append, kept_from_tests, tests_true}
use Rattle.faults.specs.Rules.{IsKept}
use Rattle.records.specs.declared.event.Event.{Event}
use Rattle.records.specs.declared.event.Event.TheVariants.{Opening, Ride}
use Rattle.records.specs.declared.event.Ride as event
use Rattle.records.specs.Events.{HasStops, arrival_of, limits, ride_rules, time_rule}
use Rattle.records.specs.Layout.{event_in, form_rules, is_opening_record, is_ride_record, record_rules, spare_bytes, zeros}
use Rattle.records.specs.Limits.{last_minute, longest_ride, most_stops}

pub record RideBounds (r : event.Ride) : Type 0 where
  pub apart : not (eqb r.from r.to) ≡ true
  pub lasts : 1 ≤ r.duration
  pub short : r.duration ≤ longest_ride

pub ride_bounds : (p : ℕ) (r : event.Ride) → IsKept (ride_rules p r) → RideBounds r
ride_bounds p r h =
    let t = tests_true (ride_rules p r) h in
    let d = and_parts (leb 1 r.duration) (leb r.duration longest_ride) t.1.0 in
    record { apart = t.0; lasts = leb-true 1 r.duration d.0; short = leb-true r.duration longest_ride d.1 }

-- a minute that obeys its rule
pub minute_bound : (p t : ℕ) → IsKept (time_rule p t ∷ []) → t ≤ last_minute
minute_bound p t h = leb-true t last_minute (tests_true (time_rule p t ∷ []) h).0

abbrev pub EventBounds : Event → Type 0
EventBounds (Opening o) = o.minute ≤ last_minute
EventBounds (Ride r) = RideBounds r × (arrival_of r ≤ last_minute)

pub event_bounds : (p : ℕ) (e : Event) → IsKept (limits p e) → EventBounds e
event_bounds p (Opening o) h = minute_bound p o.minute h
event_bounds p (Ride r) h =
    let k = kept_append (ride_rules p r) (time_rule p (arrival_of r) ∷ []) h in
    (ride_bounds p r k.0, minute_bound p (arrival_of r) k.1)

-- a ride within these bounds obeys its limits
pub ride_limits_kept : (p : ℕ) (r : event.Ride) → RideBounds r → arrival_of r ≤ last_minute → IsKept (limits p (Ride r))
ride_limits_kept p r b t =
    let d : (leb 1 r.duration && leb r.duration longest_ride) ≡ true =
    rw (le-leb 1 r.duration b.lasts, le-leb r.duration longest_ride b.short) refl in
    kept_from_tests (limits p (Ride r)) (b.apart, (d, (le-leb (arrival_of r) last_minute t, tt)))

pub record RecordBounds (p : ℕ) (bs : List ℕ) : Type 0 where
  pub kind : (is_opening_record bs || is_ride_record bs) ≡ true
  pub spare_clear : zeros (spare_bytes bs) ≡ true
  pub within : IsKept (limits p (event_in bs))

pub record_bounds : (p : ℕ) (bs : List ℕ) → IsKept (record_rules p bs) → RecordBounds p bs
record_bounds p bs h =
    let k = kept_append (form_rules p bs) (limits p (event_in bs)) h in
    let t = tests_true (form_rules p bs) k.0 in
    record { kind = t.0; spare_clear = t.1.0; within = k.1 }

-- limits at one place are those at any other
pub limits_anywhere : (p q : ℕ) (e : Event) → IsKept (limits p e) → IsKept (limits q e)
limits_anywhere p q (Opening o) h = kept_from_tests (limits q (Opening o)) (tests_true (limits p (Opening o)) h)
limits_anywhere p q (Ride r) h = kept_from_tests (limits q (Ride r)) (tests_true (limits p (Ride r)) h)

-- the stops of a record's event are bytes
pub stops_event_in : (bs : List ℕ) → get_or bs 1 0 < most_stops → get_or bs 2 0 < most_stops → HasStops (event_in bs)
stops_event_in bs h k = ⊎_elim (λ e. rw e h) (λ e. rw e (h, k)) (cases_Bool (is_opening_record bs))
