-- Proofs that the order of awaited arrivals is a strict weak one, for the impl in src/arrival.rt. Assumes nothing.
--     by_first_asymmetric, by_first_cotransitive  an order by a number first keeps the laws that the order behind it has
--     sooner_asymmetric, sooner_cotransitive      so the order of arrivals keeps them
use Rattle.std.specs.Prelude.{◌≡◌, ℕ, ◌<◌, Bool, true, false, not, ◌&&◌, ◌⊎◌}
use Rattle.std.proofs.Common.{inl, inr, ⊎_elim, sym, ◌∙◌, arith}
use Rattle.std.proofs.lemmas.Bool.{both_ways, cases_order, eq-eqb, le-ltb, lt-ltb, ne_eqb}
use Rattle.std.proofs.lemmas.Bool.Decides.{nat_tests}
use Rattle.scans.specs.declared.arrival.Arrival.{Arrival}
use Rattle.scans.specs.Arrivals.{by_first, sooner}

module _ (a : Arrival → ℕ) (B : Arrival → Arrival → Bool) where
  below : (x y : Arrival) → a x < a y → by_first a B x y ≡ true
  below x y l = rw (lt-ltb (a x) (a y) l)

  level : (x y : Arrival) → a x ≡ a y → by_first a B x y ≡ B x y
  level x y e = rw (le-ltb (a x) (a y) (omega arith), eq-eqb (a x) (a y) e)

  above : (x y : Arrival) → a y < a x → by_first a B x y ≡ false
  above x y l = rw (le-ltb (a x) (a y) (omega arith), ne_eqb (a x) (a y) (omega arith))

  pub by_first_asymmetric : ((x y : Arrival) → B x y ≡ true → B y x ≡ false) → (x y : Arrival) → by_first a B x y ≡ true → by_first a B y x ≡ false
  by_first_asymmetric asym x y h =
      ⊎_elim (λ e. level y x (sym e) ∙ asym x y (sym (level x y e) ∙ h))
      (⊎_elim (λ l. above y x l) (λ l. absurd (both_ways _ (above x y l) h)))
      (cases_order (a x) (a y))

  -- where x does not go before y
  not_before : (x y : Arrival) → by_first a B x y ≡ false → (a y < a x) ⊎ ((a x ≡ a y) × (B x y ≡ false))
  not_before x y h =
      ⊎_elim (λ e. inr (e, sym (level x y e) ∙ h))
      (⊎_elim (λ l. absurd (both_ways _ h (below x y l))) (λ l. inl l))
      (cases_order (a x) (a y))

  pub by_first_cotransitive : ((x y z : Arrival) → B x y ≡ false → B y z ≡ false → B x z ≡ false) → (x y z : Arrival) → by_first a B x y ≡ false → by_first a B y z ≡ false → by_first a B x z ≡ false
  by_first_cotransitive co x y z h k =
      ⊎_elim
      (λ l. ⊎_elim (λ r. above x z (omega arith)) (λ r. above x z (omega (arith, r.0))) (not_before y z k))
      (λ l.
      ⊎_elim (λ r. above x z (omega (arith, l.0)))
      (λ r. level x z (l.0 ∙ r.0) ∙ co x y z l.1 r.1)
      (not_before y z k))
      (not_before x y h)

called_asymmetric : (x y : Arrival) → (not x.stage.called && y.stage.called) ≡ true → (not y.stage.called && x.stage.called) ≡ false
called_asymmetric x y h = grind (arith, nat_tests)

called_cotransitive : (x y z : Arrival) → (not x.stage.called && y.stage.called) ≡ false → (not y.stage.called && z.stage.called) ≡ false → (not x.stage.called && z.stage.called) ≡ false
called_cotransitive x y z h k = grind (arith, nat_tests)

pub sooner_asymmetric : (x y : Arrival) → sooner x y ≡ true → sooner y x ≡ false
sooner_asymmetric =
    by_first_asymmetric (λ a. a.minute) _ (by_first_asymmetric (λ a. a.stage.event) _ called_asymmetric)

pub sooner_cotransitive : (x y z : Arrival) → sooner x y ≡ false → sooner y z ≡ false → sooner x z ≡ false
sooner_cotransitive =
    by_first_cotransitive (λ a. a.minute) _ (by_first_cotransitive (λ a. a.stage.event) _ called_cotransitive)
