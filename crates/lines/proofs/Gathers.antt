-- What is gathered from a list, position after position, by its sums.
use Rattle.std.proofs.Common.{◌≡◌, ℕ, zero, suc, ◌+◌, ◌<◌, List, [], ◌∷◌, ◌++◌, map, length, get_or, set, sum_by, refl, ap, ◌∙◌, arith}
use Rattle.std.proofs.lemmas.List.Sums.{sum_by-append}
use Rattle.lines.specs.declared.departure.Departure.{Departure}
use Rattle.lines.specs.Departures.{gather}

module _ {X : Type 0} (g : ℕ → X → List Departure) where
  pub gather-map : {Y : Type 0} (h : Y → X) (i : ℕ) (ys : List Y) → gather g i (map h ys) ≡ gather (λ j y. g j (h y)) i ys
  gather-map h i [] = refl
  gather-map h i (y ∷ ys) = ap (λ l. g i (h y) ++ l) (gather-map h (i + 1) ys)

  module _ (f : Departure → ℕ) where
    pub gather_cons : (i : ℕ) (x : X) (xs : List X) → sum_by f (gather g i (x ∷ xs)) ≡ sum_by f (g i x) + sum_by f (gather g (i + 1) xs)
    gather_cons i x xs = sum_by-append f (g i x) (gather g (i + 1) xs)

    pub gather-set : (xs : List X) (i k j : ℕ) (x d : X) → i + k ≡ j → k < length xs
        → sum_by f (gather g i (set xs k x)) + sum_by f (g j (get_or xs k d)) ≡ sum_by f (gather g i xs) + sum_by f (g j x)
    gather-set [] i k j x d e h = absurd (omega arith)
    gather-set (y ∷ ys) i zero j x d e h =
        let same : i ≡ j = omega arith in
        omega (arith, gather_cons i x ys, gather_cons i y ys, ap (λ n. sum_by f (g n x)) same, ap (λ n. sum_by f (g n y)) same)
    gather-set (y ∷ ys) i (suc k) j x d e h =
        omega (arith, gather_cons i y (set ys k x), gather_cons i y ys, gather-set ys (i + 1) k j x d (omega arith) (omega arith))

    pub gather_push : (xs : List X) (i j : ℕ) (x : X) → i + length xs ≡ j → sum_by f (gather g i (xs ++ x ∷ [])) ≡ sum_by f (gather g i xs) + sum_by f (g j x)
    gather_push [] i j x e =
        let same : i ≡ j = omega arith in omega (arith, gather_cons i x [], ap (λ n. sum_by f (g n x)) same)
    gather_push (y ∷ ys) i j x e = omega (arith, gather_cons i y (ys ++ x ∷ []), gather_cons i y ys, gather_push ys (i + 1) j x (omega arith))

    -- where g gives nothing that f counts, h does not
    module _ (h : ℕ → X → List Departure) where
      pub gather_zero : ((i : ℕ) (x : X) → sum_by f (g i x) ≡ 0 → sum_by f (h i x) ≡ 0)
          → (i : ℕ) (xs : List X) → sum_by f (gather g i xs) ≡ 0 → sum_by f (gather h i xs) ≡ 0
      gather_zero z i [] e = refl
      gather_zero z i (x ∷ xs) e =
          let a = gather_cons i x xs in
          let b = gather_zero z (i + 1) xs (omega arith) in
          let c = z i x (omega arith) in
          sum_by-append f (h i x) (gather h (i + 1) xs) ∙ omega arith

      pub gather_none : ((i : ℕ) (x : X) → sum_by f (g i x) ≡ 0 → h i x ≡ [])
          → (i : ℕ) (xs : List X) → sum_by f (gather g i xs) ≡ 0 → gather h i xs ≡ []
      gather_none z i [] e = refl
      gather_none z i (x ∷ xs) e =
          let a = gather_cons i x xs in
          rw (z i x (omega arith)) (gather_none z (i + 1) xs (omega arith))
