-- The departures of all lines in their order.
use Rattle.std.proofs.Common.{◌≡◌, ℕ, zero, suc, ◌+◌, ◌<◌, ◌≤◌, Bool, true, false, cond, List, [], ◌∷◌, map, length, get_or, drop, sum_by, sym, refl, ap, ◌∙◌, subst, arith}
use Rattle.std.proofs.ByRecursion.{All-weaker, all_shuffled}
use Rattle.std.proofs.lemmas.List.{drop_more, length-drop}
use Rattle.std.proofs.lemmas.List.Sorted.{IsPermutation-cons, IsPermutation-refl, IsPermutation-swap, IsPermutation-trans, sum_by-IsPermutation}
use Rattle.std.proofs.lemmas.List.Sums.{sum_by-cons}
use Rattle.std.proofs.lemmas.Bool.Decides.{nat_tests}
use Rattle.std.specs.List.Sorted.{IsPermutation}
use Rattle.queue.specs.Order.{IsRising}
use Rattle.lines.specs.declared.departure.Departure.{Departure}
use Rattle.lines.specs.declared.line.Line.{Line}
use Rattle.lines.specs.Departures.{OnlyOne, IsTimetableOf, before, departure_at, departures, ordered_insertion, ride_on, runs, sorted_departures}
use Rattle.lines.specs.Merges.{Draws}
use Rattle.lines.proofs.Drawing.{false_at_zero, departure_eq, none_sooner, sooner}

asymmetric : (x y : Departure) → before x y ≡ true → before y x ≡ false
asymmetric x y h = grind (arith, nat_tests)

cotransitive : (x y z : Departure) → before x y ≡ false → before y z ≡ false → before x z ≡ false
cotransitive x y z h k = grind (arith, nat_tests)

irreflexive : (x : Departure) → before x x ≡ false
irreflexive x = grind (arith, nat_tests)

connected : (x y : Departure) → before x y ≡ false → before y x ≡ false → x ≡ y
connected x y h k = departure_eq x y (grind (arith, nat_tests)) (grind (arith, nat_tests))

insertion_shuffled : (x : Departure) (ys : List Departure) → IsPermutation (x ∷ ys) (ordered_insertion x ys)
insertion_shuffled x [] = IsPermutation-refl (x ∷ [])
insertion_shuffled x (y ∷ ys) =
    let P : Bool → Type 0 = λ b. IsPermutation (x ∷ y ∷ ys) (cond b (y ∷ ordered_insertion x ys) (x ∷ y ∷ ys)) in
    elim (before y x) as P [
      | true ↦
          IsPermutation-trans (x ∷ y ∷ ys) (y ∷ x ∷ ys) (y ∷ ordered_insertion x ys)
          (IsPermutation-swap (x ∷ y ∷ ys) (y ∷ x ∷ ys) 0 1 (omega arith) (omega arith) refl)
          (IsPermutation-cons y (x ∷ ys) (ordered_insertion x ys) (insertion_shuffled x ys))
      | false ↦ IsPermutation-refl (x ∷ y ∷ ys)
    ]

insertion_rising : (x : Departure) (ys : List Departure) → IsRising before ys → IsRising before (ordered_insertion x ys)
insertion_rising x [] h = (tt, tt)
insertion_rising x (y ∷ ys) h =
    let P : Bool → Type 0 = λ b. before y x ≡ b → IsRising before (cond b (y ∷ ordered_insertion x ys) (x ∷ y ∷ ys)) in
    elim (before y x) as P [
      | true ↦
          λ e. (all_shuffled (λ z. before z y ≡ false) (x ∷ ys) (ordered_insertion x ys) (insertion_shuffled x ys) (asymmetric y x e, h.0), insertion_rising x ys h.1)
      | false ↦ λ e. ((e, All-weaker (λ z. before z y ≡ false) (λ z. before z x ≡ false) (λ z k. cotransitive z y x k e) ys h.0), h)
    ] refl

pub sorted_shuffled : (xs : List Departure) → IsPermutation xs (sorted_departures xs)
sorted_shuffled [] = IsPermutation-refl []
sorted_shuffled (x ∷ xs) =
    IsPermutation-trans (x ∷ xs) (x ∷ sorted_departures xs) (ordered_insertion x (sorted_departures xs)) (IsPermutation-cons x xs (sorted_departures xs) (sorted_shuffled xs)) (insertion_shuffled x (sorted_departures xs))

pub sorted_rising : (xs : List Departure) → IsRising before (sorted_departures xs)
sorted_rising [] = tt
sorted_rising (x ∷ xs) = insertion_rising x (sorted_departures xs) (sorted_rising xs)

first_sooner : (x : Departure) (xs : List Departure) → IsRising before (x ∷ xs) → sum_by (sooner x) (x ∷ xs) ≡ 0
first_sooner x xs h = none_sooner x (x ∷ xs) (irreflexive x, h.0)

-- lists in order with equal sums are equal
only : (xs ys : List Departure) → IsRising before xs → IsRising before ys → ((f : Departure → ℕ) → sum_by f xs ≡ sum_by f ys) → xs ≡ ys
only [] [] h k s = refl
only [] (y ∷ ys) h k s = absurd (omega (arith, s (λ _. 1), sum_by-cons (λ _. 1) y ys))
only (x ∷ xs) [] h k s = absurd (omega (arith, s (λ _. 1), sum_by-cons (λ _. 1) x xs))
only (x ∷ xs) (y ∷ ys) h k s =
    let a : before y x ≡ false = false_at_zero (before y x) (omega (arith, first_sooner x xs h, s (sooner x), sum_by-cons (sooner x) y ys)) in
    let b : before x y ≡ false = false_at_zero (before x y) (omega (arith, first_sooner y ys k, s (sooner y), sum_by-cons (sooner y) x xs)) in
    let e = connected x y b a in
    let rest = only xs ys h.1 k.1 (λ f. omega (arith, s f, sum_by-cons f x xs, sum_by-cons f y ys, ap f e)) in
    cc

pub only_one : OnlyOne
only_one ls es es' t u =
    let e = only t.order u.order t.rising u.rising (λ f. sum_by-IsPermutation f (runs ls) t.order t.bag ∙ sym (sum_by-IsPermutation f (runs ls) u.order u.bag)) in
    t.rides ∙ ap (map (ride_on ls)) e ∙ sym u.rides

pub timetable : (ls : List Line) → IsTimetableOf ls (map (ride_on ls) (departures ls))
timetable ls = record { order = departures ls; bag = sorted_shuffled (runs ls); rising = sorted_rising (runs ls); rides = refl }

-- what stands behind the end of a list of departures
abbrev pub no_departure : Departure
no_departure = departure_at 0 0

rising_drop : (p : ℕ) (ds : List Departure) → IsRising before ds → IsRising before (drop p ds)
rising_drop zero ds h = h
rising_drop (suc p) [] h = tt
rising_drop (suc p) (d ∷ ds) h = rising_drop p ds h.1

length-sum : (ds : List Departure) → sum_by (λ _. 1) ds ≡ length ds
length-sum [] = refl
length-sum (d ∷ ds) = sum_by-cons (λ _. 1) d ds ∙ omega (arith, length-sum ds)

-- what is left of the list behind a place, as the departures that are left of all lines
module _ (all left left' : List Departure) (p : ℕ) (rising : IsRising before all) (bag : (f : Departure → ℕ) → sum_by f left ≡ sum_by f (drop p all)) where
  pub none_behind : left ≡ [] → length all ≤ p
  none_behind e = omega (arith, bag (λ _. 1), ap (sum_by (λ _. 1)) e, length-sum (drop p all), length-drop p all)

  module _ (x : Departure) (d : Draws left x left') where
    pub more_behind : p < length all
    more_behind = omega (arith, bag (λ _. 1), d.bag (λ _. 1), length-sum (drop p all), length-drop p all)

    abbrev first : Departure
    first = get_or all p no_departure

    behind : drop p all ≡ first ∷ drop (p + 1) all
    behind = drop_more all p no_departure more_behind

    split : (f : Departure → ℕ) → sum_by f left ≡ f first + sum_by f (drop (p + 1) all)
    split f = bag f ∙ ap (sum_by f) behind ∙ sum_by-cons f first (drop (p + 1) all)

    pub drawn_first : first ≡ x
    drawn_first =
        let r : IsRising before (first ∷ drop (p + 1) all) = subst (IsRising before) behind (rising_drop p all rising) in
        connected first x
        (false_at_zero (before first x) (omega (arith, none_sooner x left d.least, split (sooner x))))
        (false_at_zero (before x first)
        (omega (arith, first_sooner first (drop (p + 1) all) r, sum_by-cons (sooner first) first (drop (p + 1) all), split (sooner first), d.bag (sooner first))))

    pub drawn_rest : (f : Departure → ℕ) → sum_by f left' ≡ sum_by f (drop (p + 1) all)
    drawn_rest f = omega (arith, split f, d.bag f, ap f drawn_first)
