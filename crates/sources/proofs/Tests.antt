-- A list of events is a timetable's where tests that a program could make say so.
--     at_stops e       the test whether the stops of an event are stops
--     is_within e      the test whether an event is within its limits
use Rattle.std.proofs.Common.{◌≡◌, ℕ, ◌+◌, ◌<◌, ◌≤◌, Bool, true, not, ◌&&◌, List, length, is_some, Some, None, Option, nat_lt, slice_index_or, refl}
use Rattle.std.proofs.ByRecursion.{All-from_get_or}
use Rattle.std.proofs.lemmas.Bool.{and_parts, ltb-true}
use Rattle.faults.specs.declared.Fault.{Fault}
use Rattle.faults.specs.Rules.{first_fault}
use Rattle.records.specs.declared.event.Event.{Event}
use Rattle.records.specs.declared.event.Event.TheVariants.{Opening, Ride}
use Rattle.records.specs.Events.{IsTimetable, HasStops, IsWithinLimits, may_precede, limits}
use Rattle.records.specs.Limits.{most_events, most_stops}
use Rattle.sources.specs.Tables.{blank_event}

abbrev pub at_stops : Event → Bool
at_stops (Opening o) = nat_lt o.stop most_stops
at_stops (Ride r) = nat_lt r.from most_stops && nat_lt r.to most_stops

abbrev pub is_within : Event → Bool
is_within e = not (is_some (first_fault (limits 0 e))) && at_stops e

stops_at : (e : Event) → at_stops e ≡ true → HasStops e
stops_at (Opening o) h = ltb-true o.stop most_stops h
stops_at (Ride r) h =
    let p = and_parts (nat_lt r.from most_stops) (nat_lt r.to most_stops) h in
    (ltb-true r.from most_stops p.0, ltb-true r.to most_stops p.1)

none_from_test : (o : Option Fault) → not (is_some o) ≡ true → o ≡ None
none_from_test None h = refl
none_from_test (Some f) h = cc

within_from_test : (e : Event) → is_within e ≡ true → IsWithinLimits e
within_from_test e h =
    let p = and_parts (not (is_some (first_fault (limits 0 e)))) (at_stops e) h in
    (none_from_test (first_fault (limits 0 e)) p.0, stops_at e p.1)

pub listed_from_tests : (es : List Event) → length es ≤ most_events → ((k : ℕ) (d : Event) → k < length es → is_within (slice_index_or es k d) ≡ true)
    → ((k : ℕ) (d : Event) → k + 1 < length es → may_precede (slice_index_or es k d) (slice_index_or es (k + 1) d) ≡ true) → IsTimetable es
listed_from_tests es few within ordered =
    record {
      few = few;
      within = All-from_get_or IsWithinLimits es blank_event (λ k h. within_from_test (slice_index_or es k blank_event) (within k blank_event h));
      ordered = ordered;
    }
