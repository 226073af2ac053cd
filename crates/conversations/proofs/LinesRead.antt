-- A line that was read off a text.
use Rattle.std.proofs.Common.{unwrap_or, get_or, nat_lt, ◌≡◌, ◌≢◌, ℕ, ◌-◌, ◌<◌, Bool, true, false, ◌⊎◌, ⊎_elim, inl, inr, List, [], ◌∷◌, ◌++◌, All, None, Some, Option, IfSome, length, eqb, sym, refl, ap, ◌∙◌, subst, arith, append-nil, length-append, eq-eqb, ne_eqb}
use lib.Seq.{get_or-append_seam}
use Rattle.std.proofs.lemmas.Bool.{eqb-true, lt-ltb}
use Rattle.std.proofs.lemmas.List.{take_at}
use Rattle.std.proofs.BufReadLemmas.{drop_through-append, take_through-append, take_through_nonempty}
use Rattle.std.specs.Io.BufRead.{DropsThrough, drop_through, strip_last, take_through}
use Rattle.dialogue.specs.Conversations.{IsFirstLine}

abbrev HasNoTen : List ℕ → Type 0
HasNoTen l = All (λ x. x ≢ 10) l

no_ten_cons : (x : ℕ) (l : List ℕ) → x ≢ 10 → HasNoTen l → HasNoTen (x ∷ l)
no_ten_cons x l n h Prim.Native.Nat.zero d lt = n
no_ten_cons x l n h (Prim.Native.Nat.suc k) d lt = h k d (omega (arith, lt))

-- the first byte 10 of a text, and what stands on both sides of it
record FirstTen (bs : List ℕ) : Type 0 where
  pub l : List ℕ
  pub r : List ℕ
  pub before : HasNoTen l
  pub whole : bs ≡ l ++ 10 ∷ r

by_test : {G : Type 0} (b : Bool) → (b ≡ true → G) → (b ≡ false → G) → G
by_test true holds fails = holds refl
by_test false holds fails = fails refl

is_no_ten : (x : ℕ) → eqb x 10 ≡ false → x ≢ 10
is_no_ten x e same = let c : false ≡ true = sym e ∙ eq-eqb x 10 same in cc c

first_ten_or_none : (bs : List ℕ) → FirstTen bs ⊎ HasNoTen bs
first_ten_or_none [] = inr (λ k d lt. absurd (omega (arith, lt)))
first_ten_or_none (x ∷ xs) =
    by_test (eqb x 10)
    (λ e. inl (record { l = []; r = xs; before = λ k d lt. absurd (omega (arith, lt)); whole = ap (λ y. y ∷ xs) (eqb-true x 10 e) }))
    (λ e.
    ⊎_elim
    (λ c. inl (record { l = x ∷ c.l; r = c.r; before = no_ten_cons x c.l (is_no_ten x e) c.before; whole = ap (λ y. x ∷ y) c.whole }))
    (λ h. inr (no_ten_cons x xs (is_no_ten x e) h))
    (first_ten_or_none xs))

-- a line is without the byte that ended it
strip_ten : (l : List ℕ) → strip_last 10 (l ++ 10 ∷ []) ≡ l
strip_ten l =
    let at : length (l ++ 10 ∷ []) - 1 ≡ length l = omega (arith, length-append l (10 ∷ [])) in
    let long : nat_lt 0 (length (l ++ 10 ∷ [])) ≡ true = lt-ltb 0 (length (l ++ 10 ∷ [])) (omega (arith, length-append l (10 ∷ []))) in
    rw (long, at, get_or-append_seam l 10 [] 0) (take_at l (10 ∷ []) (length l) refl)

strip_no_ten : (l : List ℕ) → HasNoTen l → strip_last 10 l ≡ l
strip_no_ten [] h = refl
strip_no_ten (x ∷ xs) h =
    let last : eqb (get_or (x ∷ xs) (length (x ∷ xs) - 1) 0) 10 ≡ false = ne_eqb _ 10 (h (length (x ∷ xs) - 1) 0 (omega arith)) in
    let long : nat_lt 0 (length (x ∷ xs)) ≡ true = lt-ltb _ _ (omega arith) in rw (last, long) refl

first_line_read : (bs : List ℕ) → 0 < length bs → IsFirstLine bs (strip_last 10 (take_through 10 bs)) (drop_through 10 bs)
first_line_read bs some = ⊎_elim ended last (first_ten_or_none bs)
  where
    ended : FirstTen bs → IsFirstLine bs (strip_last 10 (take_through 10 bs)) (drop_through 10 bs)
    ended c =
        let line : strip_last 10 (take_through 10 bs) ≡ c.l =
        ap (λ x. strip_last 10 (take_through 10 x)) c.whole ∙ ap (strip_last 10) (take_through-append 10 c.l (10 ∷ c.r) c.before) ∙ strip_ten c.l in
        let rest : drop_through 10 bs ≡ c.r = ap (drop_through 10) c.whole ∙ drop_through-append 10 c.l (10 ∷ c.r) c.before in
        rw (line, rest) (record { whole = λ i lt. c.before i 0 lt; ends = inl c.whole })

    last : HasNoTen bs → IsFirstLine bs (strip_last 10 (take_through 10 bs)) (drop_through 10 bs)
    last h =
        let line : strip_last 10 (take_through 10 bs) ≡ bs =
        ap (λ x. strip_last 10 (take_through 10 x)) (sym (append-nil bs)) ∙ ap (strip_last 10) (take_through-append 10 bs [] h ∙ append-nil bs) ∙ strip_no_ten bs h in
        let rest : drop_through 10 bs ≡ [] = ap (drop_through 10) (sym (append-nil bs)) ∙ drop_through-append 10 bs [] h in
        rw (line, rest) (record { whole = λ i lt. h i 0 lt; ends = inr (refl, refl, some) })

-- what a read up to byte 10 appended to no bytes is a line
pub line_read : (old new : Option (List ℕ)) (bs before read line : List ℕ) → old ≡ Some bs → before ≡ [] → IfSome old (λ xs. read ≡ before ++ take_through 10 xs) → DropsThrough old new 10 → 0 < length read → line ≡ strip_last 10 read → (r : List ℕ) × IsFirstLine bs line r × (new ≡ Some r)
line_read None new bs before read line e b was rest some cut = let c : None ≡ Some bs = e in cc c
line_read (Some xs) new bs [] read line e b was rest some cut =
    let same : xs ≡ bs = ap (λ o. unwrap_or o []) e in
    let long : 0 < length xs = take_through_nonempty 10 xs (subst (λ x. 0 < length x) was some) in
    let stripped : line ≡ strip_last 10 (take_through 10 xs) = cut ∙ ap (strip_last 10) was in
    (drop_through 10 xs, subst (λ x. IsFirstLine x line (drop_through 10 xs)) same (rw stripped (first_line_read xs long)), rest)
line_read (Some xs) new bs (x ∷ before) read line e b was rest some cut = cc b
