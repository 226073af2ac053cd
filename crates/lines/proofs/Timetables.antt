-- The timetable of lines as a source's list.
use Rattle.std.proofs.Common.{◌≡◌, ℕ, zero, suc, ◌+◌, ◌-◌, ◌*◌, ◌<◌, ◌≤◌, true, false, leb, List, [], ◌∷◌, ◌++◌, map, length, get_or, drop, replicate, Some, None, sum_by, sym, refl, ap, ◌∙◌, subst, suc-mul, arith}
use Rattle.std.proofs.ByRecursion.{All-append, All-get_or, All-map, All-weaker, all_shuffled}
use Rattle.std.proofs.lemmas.List.{get_or-map, length-append, length-map, length-replicate}
use Rattle.std.proofs.lemmas.Option.{slice_get-get_or, slice_get_past}
use Rattle.std.proofs.lemmas.List.Sorted.{length_permutation}
use Rattle.std.proofs.lemmas.List.Sums.{sum_by-cons}
use Rattle.std.proofs.lemmas.Bool.Decides.{nat_tests}
use Rattle.std.specs.List.{AllByRecursion}
use Rattle.records.specs.declared.event.Event.{Event}
use Rattle.records.specs.Events.{IsWithinLimits, may_precede}
use Rattle.records.specs.Limits.{last_minute, most_lines, most_stops}
use Rattle.records.proofs.Bounds.{RideBounds, ride_limits_kept}
use Rattle.queue.specs.Order.{IsRising}
use Rattle.sources.specs.Sources.{Reading}
use Rattle.lines.specs.declared.departure.Departure.{Departure}
use Rattle.lines.specs.declared.line.Line.{Line}
use Rattle.lines.specs.Departures.{before, departures, events_on, gather, ride_at, ride_on, run, run_from, runs, sorted_departures}
use Rattle.lines.specs.Lines.{last_arrival, no_line, rides_of, table}
use Rattle.lines.specs.Merges.{Draws, end_minute, cursor_of}
use Rattle.lines.proofs.Orders.{drawn_first, more_behind, no_departure, none_behind, sorted_rising, sorted_shuffled}

-- reading
module _ (ls : List Line) (p : ℕ) (left left' : List Departure) (bag : (f : Departure → ℕ) → sum_by f left ≡ sum_by f (drop p (departures ls))) where
  pub reads_none : p ≤ length (events_on ls) → left ≡ [] → Reading (events_on ls) p None (events_on ls) p
  reads_none w e =
      let l = length-map (departures ls) (ride_on ls) in
      let n = none_behind (departures ls) left left' p (sorted_rising (runs ls)) bag e in
      record { same = refl; item = sym (slice_get_past (events_on ls) p (omega arith)); step = omega arith }

  pub reads_one : (x : Departure) → Draws left x left' → Reading (events_on ls) p (Some (ride_on ls x)) (events_on ls) (p + 1)
  reads_one x d =
      let l = length-map (departures ls) (ride_on ls) in
      let h = more_behind (departures ls) left left' p (sorted_rising (runs ls)) bag x d in
      let at = get_or-map (ride_on ls) (departures ls) p no_departure (ride_on ls x) h in
      record {
        same = refl;
        item =
            sym
            (slice_get-get_or (events_on ls) p (ride_on ls x) (omega arith)
            ∙ ap Some (at ∙ ap (ride_on ls) (drawn_first (departures ls) left left' p (sorted_rising (runs ls)) bag x d)));
        step = omega arith;
      }

-- a table of lines has the timetable of its lines
get_or-blank : (n k : ℕ) → get_or (replicate n no_line) k no_line ≡ no_line
get_or-blank zero k = refl
get_or-blank (suc n) zero = refl
get_or-blank (suc n) (suc k) = get_or-blank n k

get_or-padded : (ls : List Line) (n k : ℕ) → get_or (ls ++ replicate n no_line) k no_line ≡ get_or ls k no_line
get_or-padded [] n k = get_or-blank n k
get_or-padded (l ∷ ls) n zero = refl
get_or-padded (l ∷ ls) n (suc k) = get_or-padded ls n k

runs-blank : (n i : ℕ) → gather run i (replicate n no_line) ≡ []
runs-blank zero i = refl
runs-blank (suc n) i = runs-blank n (i + 1)

runs_padded : (ls : List Line) (n i : ℕ) → gather run i (ls ++ replicate n no_line) ≡ gather run i ls
runs_padded [] n i = runs-blank n i
runs_padded (l ∷ ls) n i = ap (λ ds. run i l ++ ds) (runs_padded ls n (i + 1))

rides_padded : (ls : List Line) (n : ℕ) (ds : List Departure) → map (ride_on (ls ++ replicate n no_line)) ds ≡ map (ride_on ls) ds
rides_padded ls n [] = refl
rides_padded ls n (d ∷ ds) =
    let e = ap (λ l. ride_at l d.minute) (get_or-padded ls n d.line) in let r = rides_padded ls n ds in cc

pub events_on-table : (ls : List Line) → events_on (table ls) ≡ events_on ls
events_on-table ls =
    rides_padded ls (most_lines - length ls) (departures (table ls)) ∙ ap (λ ds. map (ride_on ls) (sorted_departures ds)) (runs_padded ls (most_lines - length ls) 0)

pub length-table : (ls : List Line) → length ls ≤ most_lines → length (table ls) ≡ most_lines
length-table ls h = length-append ls (replicate (most_lines - length ls) no_line) ∙ omega (arith, length-replicate (most_lines - length ls) no_line)

pub table_at : (ls : List Line) (k : ℕ) → get_or (table ls) k no_line ≡ get_or ls k no_line
table_at ls k = get_or-padded ls (most_lines - length ls) k

-- there is an event for each ride
length_run_from : (m v i n : ℕ) → length (run_from m v i n) ≡ n
length_run_from m v i zero = refl
length_run_from m v i (suc n) = ap suc (length_run_from (m + v) v i n)

length_runs : (ls : List Line) (i : ℕ) → length (gather run i ls) ≡ rides_of ls
length_runs [] i = refl
length_runs (l ∷ ls) i =
    length-append (run i l) (gather run (i + 1) ls)
    ∙ omega (arith, length_run_from l.first.departure l.interval i l.rides, length_runs ls (i + 1), sum_by-cons (λ k. k.rides) l ls)

pub length-events : (ls : List Line) → length (events_on ls) ≡ rides_of ls
length-events ls =
    length-map (departures ls) (ride_on ls) ∙ length_permutation (runs ls) (departures ls) (sorted_shuffled (runs ls)) ∙ length_runs ls 0

-- the rides of a line within its limits
pub record Regular (l : Line) : Type 0 where
  pub ride : RideBounds l.first
  pub riding : 1 ≤ l.rides
  pub arriving : last_arrival l ≤ last_minute
  pub narrow : l.interval < 65536
  pub leaving : l.first.from < most_stops
  pub reaching : l.first.to < most_stops

all_rides : (l : Line) → 1 ≤ l.rides → l.rides * l.interval ≡ (l.rides - 1) * l.interval + l.interval
all_rides l h = let e : l.rides ≡ suc (l.rides - 1) = omega arith in ap (λ n. n * l.interval) e ∙ suc-mul (l.rides - 1) l.interval

pub regular_fits : (l : Line) → Regular l → end_minute (cursor_of l) < 4294967296
regular_fits l r = omega (arith, all_rides l r.riding, r.arriving, r.narrow)

within_ride : (l : Line) (m : ℕ) → Regular l → m + l.interval ≤ l.first.departure + l.rides * l.interval → IsWithinLimits (ride_at l m)
within_ride l m r h = (
  ride_limits_kept 0 (record l.first { departure = m })
      (record { apart = r.ride.apart; lasts = r.ride.lasts; short = r.ride.short })
      (omega (arith, all_rides l r.riding, r.arriving)),
  (r.leaving, r.reaching),
)

run_facts : (m v i n : ℕ) → AllByRecursion (λ d. (d.line ≡ i) × (d.minute + v ≤ m + n * v)) (run_from m v i n)
run_facts m v i zero = tt
run_facts m v i (suc n) =
    let s = suc-mul n v in (
      (refl, omega arith),
      All-weaker (λ d. (d.line ≡ i) × (d.minute + v ≤ m + v + n * v)) (λ d. (d.line ≡ i) × (d.minute + v ≤ m + suc n * v))
          (λ d h. (h.0, omega (arith, h.1))) (run_from (m + v) v i n) (run_facts (m + v) v i n),
    )

all_gather : {X : Type 0} (P : Departure → Type 0) (g : ℕ → X → List Departure) (x₀ : X) (xs : List X) (i : ℕ)
    → ((k j : ℕ) → i + k ≡ j → k < length xs → AllByRecursion P (g j (get_or xs k x₀))) → AllByRecursion P (gather g i xs)
all_gather P g x₀ [] i h = tt
all_gather P g x₀ (x ∷ xs) i h =
    All-append P (g i x) (gather g (i + 1) xs) (h zero i (omega arith) (omega arith))
    (all_gather P g x₀ xs (i + 1) (λ k j e l. h (suc k) j (omega arith) (omega arith)))

module _ (ls : List Line) where
  pub within_events : ((k : ℕ) → k < length ls → Regular (get_or ls k no_line)) → AllByRecursion IsWithinLimits (events_on ls)
  within_events regular =
      let P : Departure → Type 0 = λ d. IsWithinLimits (ride_on ls d) in
      All-map IsWithinLimits (ride_on ls) (departures ls)
      (all_shuffled P (runs ls) (departures ls) (sorted_shuffled (runs ls))
      (all_gather P run no_line ls 0
      (λ k j e h.
      let l = get_or ls k no_line in
      All-weaker (λ d. (d.line ≡ j) × (d.minute + l.interval ≤ l.first.departure + l.rides * l.interval)) P
      (λ d q.
      let at : k ≡ d.line = omega (arith, q.0) in
      subst (λ n. IsWithinLimits (ride_at (get_or ls n no_line) d.minute)) at (within_ride l d.minute (regular k h) q.1))
      (run j l) (run_facts l.first.departure l.interval j l.rides))))

  rising_at : (ds : List Departure) (k j : ℕ) (d : Departure) → IsRising before ds → k < j → j < length ds → before (get_or ds j d) (get_or ds k d) ≡ false
  rising_at [] k j d h a b = absurd (omega arith)
  rising_at (x ∷ xs) k zero d h a b = absurd (omega arith)
  rising_at (x ∷ xs) zero (suc j) d h a b = All-get_or (λ y. before y x ≡ false) xs j d (omega arith) h.0
  rising_at (x ∷ xs) (suc k) (suc j) d h a b = rising_at xs k j d h.1 (omega arith) (omega arith)

  not_later : (x y : Departure) → before y x ≡ false → leb x.minute y.minute ≡ true
  not_later x y h = grind (arith, nat_tests)

  pub ordered_events : (k : ℕ) (d : Event) → k + 1 < length (events_on ls) → may_precede (get_or (events_on ls) k d) (get_or (events_on ls) (k + 1) d) ≡ true
  ordered_events k d h =
      let n = length-map (departures ls) (ride_on ls) in
      let i : k < length (departures ls) = omega arith in
      let j : k + 1 < length (departures ls) = omega arith in
      rw (get_or-map (ride_on ls) (departures ls) k no_departure d i, get_or-map (ride_on ls) (departures ls) (k + 1) no_departure d j)
      (not_later (get_or (departures ls) k no_departure) (get_or (departures ls) (k + 1) no_departure)
      (rising_at (departures ls) k (k + 1) no_departure (sorted_rising (runs ls)) (omega arith) j))
