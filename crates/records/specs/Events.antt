-- The limits of events, and their order. What an event is: src/event.rt. Assumes nothing.
--     opening_event s t  the opening at the stop s in the minute t
--     ride_event a b t d  the ride from stop a to stop b that departs in minute t and takes d minutes
--     is_opening e, is_ride e  which of the two e is
--     arrival_of r     the minute in which a ride arrives
--     time_of e        an opening's minute, a ride's departure
--     ride_rules p r   the rules on a ride's stops and duration, p being the place in their faults: its stops differ, it
--                      lasts at least a minute and at most longest_ride
--     time_rule p t    the rule that the minute t is one of a timetable's, at most last_minute
--     limits p e       the rules that an event must obey: a ride's, and that its arrival is one of a timetable's
--                      minutes; of an opening, that its minute is
--     HasStops e       its stops are below most_stops; there is at most one proof of that (HasStops-prop)
--     IsWithinLimits e  it breaks none of its limits, and its stops are below most_stops
--     may_precede d e  e may stand right after d: times do not fall, and within a minute no opening
--                      follows a ride
--     IsTimetable es   a timetable's list of events: at most most_events, each within the limits, in order
use Rattle.std.specs.Prelude.{◌≡◌, ℕ, ◌+◌, ◌<◌, ◌≤◌, Bool, true, false, not, ◌&&◌, List, [], ◌∷◌, ◌++◌, length, ◌==◌, nat_le, nat_lt}
use Rattle.std.specs.Coded.{×_prop, le_prop}
use Rattle.std.specs.List.{AllByRecursion, AllAdjacentBelow}
use Rattle.faults.specs.declared.Fault.TheVariants.{EqualStops, DurationOutOfRange, TimeOutOfRange}
use Rattle.faults.specs.Rules.{Rule, IsKept}
use Rattle.records.specs.declared.event.Event.{Event}
use Rattle.records.specs.declared.event.Event.TheVariants.{Opening, Ride}
use Rattle.records.specs.declared.event.Ride as event
use Rattle.records.specs.Limits.{last_minute, longest_ride, most_events, most_stops}

abbrev pub opening_event : ℕ → ℕ → Event
opening_event stop minute = Opening (record { stop = stop; minute = minute })

abbrev pub ride_event : ℕ → ℕ → ℕ → ℕ → Event
ride_event from to departure duration =
    Ride (record { from = from; to = to; departure = departure; duration = duration })

abbrev pub is_opening : Event → Bool
is_opening (Opening o) = true
is_opening (Ride r) = false

abbrev pub is_ride : Event → Bool
is_ride e = not (is_opening e)

abbrev pub arrival_of : event.Ride → ℕ
arrival_of r = r.departure + r.duration

abbrev pub time_of : Event → ℕ
time_of (Opening o) = o.minute
time_of (Ride r) = r.departure

abbrev pub ride_rules : ℕ → event.Ride → List Rule
ride_rules p r =
    (not (r.from == r.to), EqualStops p)
    ∷ (nat_le 1 r.duration && nat_le r.duration longest_ride, DurationOutOfRange p)
    ∷ []

abbrev pub time_rule : ℕ → ℕ → Rule
time_rule p t = (nat_le t last_minute, TimeOutOfRange p)

abbrev pub limits : ℕ → Event → List Rule
limits p (Opening o) = time_rule p o.minute ∷ []
limits p (Ride r) = ride_rules p r ++ time_rule p (arrival_of r) ∷ []

abbrev pub HasStops : Event → Type 0
HasStops (Opening o) = o.stop < most_stops
HasStops (Ride r) = (r.from < most_stops) × (r.to < most_stops)

pub HasStops-prop : (e : Event) → IsProp (HasStops e)
HasStops-prop (Opening o) = le_prop
HasStops-prop (Ride r) = ×_prop le_prop le_prop

abbrev pub IsWithinLimits : Event → Type 0
IsWithinLimits e = IsKept (limits 0 e) × HasStops e

abbrev pub may_precede : Event → Event → Bool
may_precede (Opening o) e = nat_le o.minute (time_of e)
may_precede (Ride r) (Opening o) = nat_lt r.departure o.minute
may_precede (Ride r) (Ride s) = nat_le r.departure s.departure

pub record IsTimetable (es : List Event) : Type 0 where
  pub few : length es ≤ most_events
  pub within : AllByRecursion IsWithinLimits es
  pub ordered : AllAdjacentBelow (λ d e. may_precede d e ≡ true) es (length es)
