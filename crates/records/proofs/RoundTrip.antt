-- Writing and reading undo each other.
use Rattle.std.proofs.Common.{◌≡◌, ℕ, ◌+◌, ◌*◌, ◌/◌, ◌%◌, ◌<◌, true, eqb, List, [], ◌∷◌, ◌++◌, map, length, get_or, replicate, sym, refl, ap, ◌∙◌, subst, ⊎_elim, arith}
use Rattle.std.proofs.lemmas.List.Folds.{list_all-append}
use Rattle.std.proofs.lemmas.List.FromFn.{fill_by_all}
use Rattle.std.proofs.lemmas.Bool.{and_parts, cases_Bool, eqb-true}
use Rattle.std.specs.List.{range_with_len}
use Rattle.faults.specs.Rules.{IsKept}
use Rattle.records.proofs.Bounds.{record_bounds}
use Rattle.records.specs.Layout.{is_opening_record, bytes4, bytes2, zeros, layout, event_in, record_rules}

bytes4-word : (a b c d : ℕ) → a < 256 → b < 256 → c < 256 → d < 256 → bytes4 (a * 16777216 + b * 65536 + c * 256 + d) ≡ a ∷ b ∷ c ∷ d ∷ []
bytes4-word a b c d ha hb hc hd =
    let n : ℕ = a * 16777216 + b * 65536 + c * 256 + d in
    let ea : n / 16777216 % 256 ≡ a = omega arith in
    let eb : n / 65536 % 256 ≡ b = omega arith in
    let ec : n / 256 % 256 ≡ c = omega arith in
    let ed : n % 256 ≡ d = omega arith in
    rw (ea, eb, ec, ed)

bytes2-half : (a b : ℕ) → a < 256 → b < 256 → bytes2 (a * 256 + b) ≡ a ∷ b ∷ []
bytes2-half a b ha hb =
    let ea : (a * 256 + b) / 256 % 256 ≡ a = omega arith in
    let eb : (a * 256 + b) % 256 ≡ b = omega arith in
    rw (ea, eb)

zeros_true : (bs : List ℕ) → zeros bs ≡ true → bs ≡ replicate (length bs) 0
zeros_true [] h = refl
zeros_true (b ∷ bs) h =
    let k = and_parts (eqb b 0) (zeros bs) h in
    let e = eqb-true b 0 k.0 in
    let r = zeros_true bs k.1 in
    cc

zeros_parts : (xs ys : List ℕ) → zeros (xs ++ ys) ≡ true → (xs ≡ replicate (length xs) 0) × (ys ≡ replicate (length ys) 0)
zeros_parts xs ys h =
    let k = and_parts (zeros xs) (zeros ys) (sym (list_all-append (λ b. eqb b 0) xs ys) ∙ h) in (zeros_true xs k.0, zeros_true ys k.1)

same_parts : (a a' s : ℕ) (x x' y y' z z' : List ℕ) → a ≡ a' → x ≡ x' → y ≡ y' → z ≡ z' → a ∷ s ∷ (x ++ (y ++ z)) ≡ a' ∷ s ∷ (x' ++ (y' ++ z'))
same_parts a a' s x x' y y' z z' h i j k = cc

-- a list of sixteen, spelled out
first16 : List ℕ → List ℕ
first16 bs = map (λ i. get_or bs i 0) (range_with_len 0 16)

module _ (p : ℕ) (bs : List ℕ) (small : (i : ℕ) → get_or bs i 0 < 256) where
  abbrev b : ℕ → ℕ
  b i = get_or bs i 0

  -- a spelled-out record without fault is the one that writing its event gives
  layout_first16 : IsKept (record_rules p (first16 bs)) → layout (event_in (first16 bs)) ≡ first16 bs
  unfolding first16
  layout_first16 h =
      let w = bytes4-word (b 4) (b 5) (b 6) (b 7) (small 4) (small 5) (small 6) (small 7) in
      let v = bytes2-half (b 8) (b 9) (small 8) (small 9) in
      let k = record_bounds p (first16 bs) h in
      let z = k.spare_clear in
      ⊎_elim
      (λ e. let y = zeros_parts (b 2 ∷ b 3 ∷ []) (b 8 ∷ b 9 ∷ b 10 ∷ b 11 ∷ b 12 ∷ b 13 ∷ b 14 ∷ b 15 ∷ []) (rw e at z) in
      rw e (same_parts 1 (b 0) (b 1) (0 ∷ 0 ∷ []) (b 2 ∷ b 3 ∷ []) _ _ _ _ (sym (eqb-true (b 0) 1 e)) (sym y.0) w (sym y.1)))
      (λ e. let y = zeros_parts (b 3 ∷ []) (b 10 ∷ b 11 ∷ b 12 ∷ b 13 ∷ b 14 ∷ b 15 ∷ []) (rw e at z) in
      rw e (same_parts 2 (b 0) (b 1) (b 2 ∷ 0 ∷ []) (b 2 ∷ b 3 ∷ []) _ _ _ _ (sym (eqb-true (b 0) 2 (rw e at k.kind))) (ap (λ l. b 2 ∷ l) (sym y.0)) w (cc (v, y.1))))
      (cases_Bool (is_opening_record (first16 bs)))

  pub layout-event_in : length bs ≡ 16 → IsKept (record_rules p bs) → layout (event_in bs) ≡ bs
  unfolding first16
  layout-event_in sixteen h =
      let e = fill_by_all (λ i. get_or bs i 0) bs 16 0 sixteen (λ k _. refl) in
      subst (λ l. layout (event_in l) ≡ l) (sym e) (layout_first16 (subst (λ l. IsKept (record_rules p l)) e h))
