-- Where a number ends within a text.
--     Ended bs         the text is over, or goes on with a space
use Rattle.std.proofs.Common.{◌≡◌, ℕ, ◌+◌, ◌-◌, ◌*◌, ◌/◌, ◌%◌, ◌^◌, ◌<◌, ◌≤◌, ◌⊎◌, List, [], ◌∷◌, ◌++◌, length, get_or, decimal, sym, refl, ap, ◌∙◌, subst, inl, inr, ⊎_elim, arith}
use Rattle.std.proofs.lemmas.Fmt.{decimal_digit, decimal_is_IsNumeral, decimal_step, first_decimal, decimal_injective}
use Rattle.std.proofs.lemmas.List.{append_assoc, append-nil, length-append}
use Rattle.std.proofs.lemmas.Str.Parse.{digit_from_value}
use Rattle.std.proofs.lemmas.Bool.{cases_lt}
use Rattle.std.proofs.lemmas.Str.{digit_value_digit}
use Rattle.std.specs.Str.Parse.{AllDigits, digits_value_after}
use Rattle.std.specs.Int.{IsInRange}
use Rattle.std.specs.Char.{digit_value}
use Rattle.records.specs.Limits.{most_number}

abbrev pub Ended : List ℕ → Type 0
Ended [] = Unit {0}
Ended (b ∷ bs) = b ≡ 32

-- digits and then xs are digits and then b: they end together, or the former go on with b
digits_next : (ds es xs ys : List ℕ) (b : ℕ) → AllDigits 10 ds → AllDigits 10 es → Ended xs → ds ++ xs ≡ es ++ (b ∷ ys) → ((ds ≡ es) × (xs ≡ b ∷ ys)) ⊎ ((fs : List ℕ) × (ds ≡ es ++ (b ∷ fs)))
digits_next [] [] xs ys b d e h k = inl (refl, k)
digits_next [] (y ∷ es) xs ys b d e h k =
    let z : y ≡ 32 = subst Ended k h in absurd (omega (arith, digit_from_value y e.0))
digits_next (x ∷ ds) [] xs ys b d e h k = let z : x ≡ b = cc in inr (ds, cc)
digits_next (x ∷ ds) (y ∷ es) xs ys b d e h k =
    let z : x ≡ y = cc in
    ⊎_elim (λ p. let p₀ = p.0 in inl (cc, p.1)) (λ p. let p₁ = p.1 in inr (p.0, cc)) (digits_next ds es xs ys b d.1 e.1 h (cc))

value_after_append : (n : ℕ) (xs ys : List ℕ) → digits_value_after 10 n (xs ++ ys) ≡ digits_value_after 10 (digits_value_after 10 n xs) ys
value_after_append n [] ys = refl
value_after_append n (x ∷ xs) ys = value_after_append (n * 10 + digit_value x) xs ys

value_after_ge : (n : ℕ) (ds : List ℕ) → n ≤ digits_value_after 10 n ds
value_after_ge n [] = omega arith
value_after_ge n (c ∷ cs) = omega (arith, value_after_ge (n * 10 + digit_value c) cs)

digits_part : (es fs : List ℕ) (b : ℕ) → AllDigits 10 (es ++ (b ∷ fs)) → IsInRange 48 57 b
digits_part [] fs b d = digit_from_value b d.0
digits_part (e ∷ es) fs b d = digits_part es fs b d.1

-- a number has a first digit
pub number_first : (n b : ℕ) (xs ys : List ℕ) → n < 2 ^ 64 → b ∷ ys ≡ decimal n ++ xs → IsInRange 48 57 b
number_first n b xs ys small e = first (decimal n) (decimal_is_IsNumeral n small).0.0 (decimal_is_IsNumeral n small).0.1 e
  where
    first : (ds : List ℕ) → 0 < length ds → AllDigits 10 ds → b ∷ ys ≡ ds ++ xs → IsInRange 48 57 b
    first [] some d k = absurd (omega arith)
    first (c ∷ ds) some d k = let z : c ≡ b = cc in rw z at (digit_from_value c d.0)

module _ (m n : ℕ) (small : m < 2 ^ 64) (small' : n < 2 ^ 64) where
  -- no number but 0 begins with 0
  not_after_zero : (b : ℕ) (fs : List ℕ) → decimal m ≡ 48 ∷ b ∷ fs → ⊥
  not_after_zero b fs e =
      ⊎_elim
      (λ y. omega (arith, first_decimal m y small, ap (λ ds. get_or ds 0 0) e))
      (λ y. let z : m ≡ 0 = omega arith in omega (arith, ap length (sym (decimal_digit 0 (omega arith)) ∙ ap decimal (sym z) ∙ e)))
      (cases_lt 0 m)

  -- a longer number has the shorter one's digits in front: it is larger, and the shorter one is not 0
  longer : (b : ℕ) (fs : List ℕ) → IsInRange 48 57 b → decimal m ≡ decimal n ++ (b ∷ fs) → (0 < n) × (n * 10 + (b - 48) ≤ m)
  longer b fs d e =
      let k = digit_value_digit b d in
      let v : m ≡ digits_value_after 10 (n * 10 + digit_value b) fs =
      sym (decimal_is_IsNumeral m small).1
      ∙ ap (digits_value_after 10 0) e
      ∙ value_after_append 0 (decimal n) (b ∷ fs)
      ∙ ap (λ x. digits_value_after 10 (x * 10 + digit_value b) fs) (decimal_is_IsNumeral n small').1 in
      let g = value_after_ge (n * 10 + digit_value b) fs in
      let none : n ≡ 0 → ⊥ = λ z. not_after_zero b fs (e ∙ ap (λ x. decimal x ++ (b ∷ fs)) z ∙ ap (λ l. l ++ (b ∷ fs)) (decimal_digit 0 (omega arith))) in
      (⊎_elim (λ z. z) (λ z. absurd (none (omega arith))) (cases_lt 0 n), omega arith)

  -- behind a number stands what the text has there, or a further digit of a larger number
  pub number_next : (xs ys : List ℕ) (b : ℕ) → Ended xs → decimal m ++ xs ≡ decimal n ++ (b ∷ ys) → ((m ≡ n) × (xs ≡ b ∷ ys)) ⊎ (IsInRange 48 57 b × (0 < n) × (n * 10 + (b - 48) ≤ m))
  number_next xs ys b h e =
      let d = (decimal_is_IsNumeral m small).0.1 in
      ⊎_elim
      (λ p. inl (decimal_injective m n small small' p.0, p.1))
      (λ p. let i = digits_part (decimal n) p.0 b (subst (AllDigits 10) p.1 d) in let l = longer b p.0 i p.1 in inr (i, l.0, l.1))
      (digits_next (decimal m) (decimal n) xs ys b d (decimal_is_IsNumeral n small').0.1 h e)

  -- a text ends with a number that nothing follows
  number_ends : (xs : List ℕ) → Ended xs → decimal m ++ xs ≡ decimal n → (m ≡ n) × (xs ≡ [])
  number_ends xs h e =
      ⊎_elim (λ p. (p.0, last xs p.1)) (λ p. absurd (omega (arith, p.0)))
      (number_next (xs ++ (32 ∷ [])) [] 32 (ended xs h) (sym (append_assoc (decimal m) xs (32 ∷ [])) ∙ ap (λ l. l ++ (32 ∷ [])) e))
    where
      ended : (l : List ℕ) → Ended l → Ended (l ++ (32 ∷ []))
      ended [] k = refl
      ended (b ∷ l) k = k

      last : (l : List ℕ) → l ++ (32 ∷ []) ≡ 32 ∷ [] → l ≡ []
      last [] k = refl
      last (b ∷ l) k = absurd (omega (arith, length-append l (32 ∷ []), ap length k))

  -- a number and what follows it are told apart in one way
  pub same_number : (xs ys : List ℕ) → Ended xs → Ended ys → decimal m ++ xs ≡ decimal n ++ ys → (m ≡ n) × (xs ≡ ys)
  same_number xs [] h k e = number_ends xs h (e ∙ append-nil (decimal n))
  same_number xs (b ∷ ys) h k e =
      ⊎_elim (λ p. p) (λ p. absurd (omega (arith, p.0))) (number_next xs ys b h e)

-- a number that a text ends with is not followed by a space
pub no_space_behind : (m n : ℕ) (bs : List ℕ) → m ≤ most_number → n ≤ most_number → decimal m ++ (32 ∷ bs) ≡ decimal n → ⊥
no_space_behind m n bs h k e = omega (arith, ap length (number_ends m n (omega arith) (omega arith) (32 ∷ bs) refl e).1)

-- a further digit of a number
pub decimal_more : (n d : ℕ) → 0 < n → n ≤ most_number → d < 10 → decimal (n * 10 + d) ≡ decimal n ++ ((48 + d) ∷ [])
decimal_more n d some small less =
    let m : ℕ = n * 10 + d in
    let front : m / 10 ≡ n = omega arith in
    let end : m % 10 ≡ d = omega arith in
    rw (decimal_step m (omega arith) (omega arith), front, end)
