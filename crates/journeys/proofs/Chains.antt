-- Chains of neighbours, and that a timetable's numbers rise with its times.
use Rattle.std.proofs.Common.{◌≡◌, ℕ, ◌+◌, ◌*◌, ◌<◌, ◌≤◌, true, List, [], ◌∷◌, map, length, get_or, ⊎_elim, arith}
use Rattle.std.proofs.lemmas.List.Sorted.{IsNonDecreasingBy-from_all_adjacent}
use Rattle.std.proofs.lemmas.Bool.{cases_lt, leb-true, ltb-true}
use Rattle.records.specs.declared.event.Event.{Event}
use Rattle.records.specs.declared.event.Event.TheVariants.{Opening, Ride}
use Rattle.records.specs.Events.{IsTimetable, may_precede, time_of}
use Rattle.journeys.specs.Journeys.{AllNeighbours, event_numbered, one_if_ride}

-- from one relation of neighbours to another
module _ {X Y : Type 0} (R : X → X → Type 0) (f : X → Y) (S : Y → Y → Type 0) where
  pub chained_map : ((x y : X) → R x y → S (f x) (f y)) → (xs : List X) → AllNeighbours R xs → AllNeighbours S (map f xs)
  chained_map h [] c = tt
  chained_map h (x ∷ []) c = (tt, tt)
  chained_map h (x ∷ y ∷ ys) c = (h x y c.0, chained_map h (y ∷ ys) c.1)

  pub map_chained : ((x y : X) → S (f x) (f y) → R x y) → (xs : List X) → AllNeighbours S (map f xs) → AllNeighbours R xs
  map_chained h [] c = tt
  map_chained h (x ∷ []) c = (tt, tt)
  map_chained h (x ∷ y ∷ ys) c = (h x y c.0, map_chained h (y ∷ ys) c.1)

-- a timetable's order as a number: the time first, and openings before rides
abbrev pub rank : Event → ℕ
rank e = 2 * time_of e + one_if_ride e

in_order_ranks : (d e : Event) → may_precede d e ≡ true → rank d ≤ rank e
in_order_ranks (Opening o) (Opening n) h = omega (arith, leb-true o.minute n.minute h)
in_order_ranks (Opening o) (Ride r) h = omega (arith, leb-true o.minute r.departure h)
in_order_ranks (Ride r) (Opening o) h = omega (arith, ltb-true r.departure o.minute h)
in_order_ranks (Ride r) (Ride s) h = omega (arith, leb-true r.departure s.departure h)

rank_times : (d e : Event) → rank d ≤ rank e → time_of d ≤ time_of e
rank_times d (Opening o) h = omega arith
rank_times d (Ride r) h = omega arith

module _ (es : List Event) (listed : IsTimetable es) (i j : ℕ) where
  ranks_rise : i ≤ j → j < length es → rank (event_numbered es i) ≤ rank (event_numbered es j)
  ranks_rise h l =
      IsNonDecreasingBy-from_all_adjacent rank es (λ k d u. in_order_ranks (get_or es k d) (get_or es (k + 1) d) (listed.ordered k d u)) i j (event_numbered [] 0) h l

  pub times_rise : i ≤ j → j < length es → time_of (event_numbered es i) ≤ time_of (event_numbered es j)
  times_rise h l = rank_times (event_numbered es i) (event_numbered es j) (ranks_rise h l)

-- what ranks lower has the lower number
pub lower_rank : (es : List Event) → IsTimetable es → (i j : ℕ) → i < length es → rank (event_numbered es i) < rank (event_numbered es j) → i < j
lower_rank es listed i j l h =
    ⊎_elim (λ lt. lt) (λ le. absurd (omega (arith, ranks_rise es listed j i le l))) (cases_lt i j)
