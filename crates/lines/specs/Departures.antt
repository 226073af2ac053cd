-- The departures of lines, and the timetable that they make. Assumes nothing.
--     before x y          x departs earlier, or in the same minute and its line comes earlier in the block
--     departure_at m i    the departure of line i in minute m
--     run_from m v i n    n departures of line i, from minute m on, v minutes apart
--     run i l             the departures of the line l, whose position is i
--     gather g i xs       the lists that g makes of each of xs and its position, which is i for the first, joined into one
--     runs ls             the departures of all lines, line after line
--     ride_at l m         the ride of a line that departs in minute m
--     ride_on ls d        the ride of a departure
--     IsTimetableOf ls es  es are the rides of all lines, rearranged by departure and then by line position
--     OnlyOne             the same lines have only one such list es
--     ordered_insertion x ds  ds with x put in before the first of them that does not go before x
--     sorted_departures ds  ds in order, by such insertions
--     departures ls       the departures of all lines in order
--     events_on ls        their rides, which are a timetable
use Rattle.std.specs.Prelude.{◌≡◌, ℕ, zero, suc, ◌+◌, Bool, ◌&&◌, ◌||◌, List, [], ◌∷◌, ◌++◌, map, ◌==◌, nat_lt, slice_index_or, if◌then◌else◌}
use Rattle.std.specs.List.Sorted.{IsPermutation}
use Rattle.records.specs.declared.event.Event.{Event}
use Rattle.records.specs.declared.event.Event.TheVariants.{Ride}
use Rattle.queue.specs.Order.{IsRising}
use Rattle.lines.specs.declared.departure.Departure.{Departure}
use Rattle.lines.specs.declared.line.Line.{Line}
use Rattle.lines.specs.Lines.{no_line}

abbrev pub before : Departure → Departure → Bool
before x y = nat_lt x.minute y.minute || (x.minute == y.minute && nat_lt x.line y.line)

abbrev pub departure_at : ℕ → ℕ → Departure
departure_at m i = record { minute = m; line = i }

abbrev pub run_from : ℕ → ℕ → ℕ → ℕ → List Departure
run_from m v i zero = []
run_from m v i (suc n) = departure_at m i ∷ run_from (m + v) v i n

abbrev pub run : ℕ → Line → List Departure
run i l = run_from l.first.departure l.interval i l.rides

abbrev pub gather : {X : Type 0} → (ℕ → X → List Departure) → ℕ → List X → List Departure
gather g i [] = []
gather g i (x ∷ xs) = g i x ++ gather g (i + 1) xs

abbrev pub runs : List Line → List Departure
runs ls = gather run 0 ls

abbrev pub ride_at : Line → ℕ → Event
ride_at l m = Ride (record l.first { departure = m })

abbrev pub ride_on : List Line → Departure → Event
ride_on ls d = ride_at (slice_index_or ls d.line no_line) d.minute

pub record IsTimetableOf (ls : List Line) (es : List Event) : Type 0 where
  pub order : List Departure
  pub bag : IsPermutation (runs ls) order
  pub rising : IsRising before order
  pub rides : es ≡ map (ride_on ls) order

abbrev pub OnlyOne : Type 0
OnlyOne = (ls : List Line) (es es' : List Event) → IsTimetableOf ls es → IsTimetableOf ls es' → es ≡ es'

abbrev pub ordered_insertion : Departure → List Departure → List Departure
ordered_insertion x [] = x ∷ []
ordered_insertion x (y ∷ ys) = if before y x then y ∷ ordered_insertion x ys else x ∷ y ∷ ys

abbrev pub sorted_departures : List Departure → List Departure
sorted_departures [] = []
sorted_departures (x ∷ xs) = ordered_insertion x (sorted_departures xs)

abbrev pub departures : List Line → List Departure
departures ls = sorted_departures (runs ls)

abbrev pub events_on : List Line → List Event
events_on ls = map (ride_on ls) (departures ls)
