-- What a splitter gives, and what numbers are read from it.
use Rattle.std.proofs.Common.{◌≡◌, ℕ, ◌^◌, ◌<◌, Bool, true, false, ◌&&◌, List, [], ◌∷◌, length, drop, Some, None, Ok, Err, Option, Result, Bor, bytes_eq, codes, ◌||◌, nat_lt, Decides, OkIff, IsErrAnd, if◌then◌else◌, sym, refl, ap, subst, ◌∙◌, lit<, rules}
use Rattle.std.proofs.lemmas.Bool.Decides.{Decides-ltb, Decides-and}
use Rattle.std.proofs.lemmas.Iterator.Splits.{YieldsList-from_str_split}
use Rattle.std.proofs.lemmas.Result.{err_from_is_err_and}
use Rattle.std.proofs.lemmas.Slice.Eq.{bytes_eq-Decides}
use Rattle.std.specs.Char.{digit_value}
use Rattle.std.specs.List.{list_all}
use Rattle.std.specs.Result.{result_or}
use Rattle.std.specs.Str.Iter.{split_has_more, split_pattern, split_steps, split_text}
use Rattle.std.specs.Str.Parse.{AllDigits, ExplainsUnsignedError, HasUnsignedDigitsIfOk, IsNumeral, ParsesUnsigned, digits_value, without_leading_plus}
use Rattle.std.specs.Str.Pattern.{FindsChar}
use Rattle.std.specs.declared.str.Split.{Split}
use Rattle.std.specs.declared.num.ParseIntError.{ParseIntError}
use Rattle.scripts.specs.declared.line.LineError.{LineError}
use Rattle.scripts.specs.declared.line.LineError.TheVariants.{MissingNumber, NotANumber, UnknownLetter}
use Rattle.scripts.specs.Lines.{NumberTaken, WordsLeft, line_in, number_in, number_before, number_or_error, meaning_of_letter, meaning_of_words, words_of}

abbrev pub steps : Split ℕ → Option (Bor (List ℕ)) → Split ℕ → Type 0
steps = split_steps FindsChar (λ a b. b ≡ a)

-- a word that comes is the first of those left, and the others are left
pub word_came : (s t : Split ℕ) (x : Bor (List ℕ)) (ws : List (List ℕ)) → WordsLeft s ws → steps s (Some x) t
    → (vs : List (List ℕ)) × (ws ≡ x.now ∷ vs) × WordsLeft t vs
word_came s t x [] l h = absurd (l x t h)
word_came s t x (w ∷ ws) l h = let f = l.1 x t h in (ws, ap (λ y. y ∷ ws) (sym f.0), f.1)

-- what the exit of a `?` hands on
pub exit : {T E : Type 0} (r : Result T E) (x : E) → IsErrAnd r (λ e. e ≡ x) → r ≡ Err x
exit r x h = let p = err_from_is_err_and r h in p.1 ∙ ap Err p.2

digits_decided : (ds : List ℕ) → Decides (list_all (λ d. nat_lt (digit_value d) 10) ds) (AllDigits 10 ds)
digits_decided [] = (λ _. search rules, λ _. refl)
digits_decided (d ∷ ds) = Decides-and _ _ (Decides-ltb (digit_value d) 10) (digits_decided ds)

off : (b : Bool) → (b ≡ true → ⊥) → b ≡ false
off true h = absurd (h refl)
off false h = refl

-- a number as the library's reader gives it, or the error
number_read : {E : Type 0} (k : ℕ) (w : List ℕ) (p : Result ℕ E) → ParsesUnsigned k 10 w p → result_or p (Err NotANumber) ≡ number_or_error (number_in k w) Ok
number_read k w p h =
    let ds = without_leading_plus w in
    let v = digits_value 10 ds in
    let test = (nat_lt 0 (length ds) && list_all (λ d. nat_lt (digit_value d) 10) ds) && nat_lt v (2 ^ k) in
    let decided = Decides-and _ _ (Decides-and _ _ (Decides-ltb 0 (length ds)) (digits_decided ds)) (Decides-ltb v (2 ^ k)) in
    let answer = λ (b : Bool). number_or_error (if b then Some v else None) Ok in
    elim p as (λ q. OkIff q (IsNumeral 10 ds × (v < 2 ^ k)) v → result_or q (Err NotANumber) ≡ answer test) [
      | Ok x ↦ λ g. ap Ok g.1 ∙ ap answer (sym (decided.1 g.0))
      | Err e ↦ λ g. ap answer (sym (off test (λ t. g (decided.0 t))))
    ] h

-- what the library's readers of unsigned numbers say
abbrev pub reads : ℕ → List ℕ → Result ℕ ParseIntError → Type 0
reads k bs r = ParsesUnsigned k 10 bs r × ExplainsUnsignedError 10 bs r × HasUnsignedDigitsIfOk bs r

number_here : (k : ℕ) (ws : List (List ℕ)) (r : Result ℕ LineError) → NumberTaken (reads k) ws r → r ≡ number_before k (λ n _. Ok n) ws
number_here k [] r h = h
number_here k (w ∷ ws) r h = h.2 ∙ number_read k w h.0 h.1.0

missed_at : {X : Type 0} (o : Option ℕ) (f : ℕ → Result X LineError) (e : LineError) → Err e ≡ number_or_error o Ok → Err e ≡ number_or_error o f
missed_at None f e h = let q : e ≡ NotANumber = cc in ap Err q
missed_at (Some n) f e h = cc

missed : {X : Type 0} (k : ℕ) (f : ℕ → List (List ℕ) → Result X LineError) (ws : List (List ℕ)) (e : LineError) → Err e ≡ number_before k (λ n _. Ok n) ws
    → Err e ≡ number_before k f ws
missed k f [] e h = let q : e ≡ MissingNumber = cc in ap Err q
missed k f (w ∷ ws) e h = missed_at (number_in k w) (λ n. f n ws) e h

met_at : {X : Type 0} (o : Option ℕ) (f : ℕ → Result X LineError) (n : ℕ) → Ok n ≡ number_or_error o Ok → f n ≡ number_or_error o f
met_at None f n h = cc
met_at (Some m) f n h = let q : n ≡ m = cc in ap f q

met : {X : Type 0} (k : ℕ) (f : ℕ → List (List ℕ) → Result X LineError) (ws : List (List ℕ)) (n : ℕ) → Ok n ≡ number_before k (λ n _. Ok n) ws
    → f n (drop 1 ws) ≡ number_before k f ws
met k f [] n h = cc
met k f (w ∷ ws) n h = met_at (number_in k w) (λ m. f m ws) n h

-- where no number is read, nothing is told
pub told_none : {X : Type 0} (k : ℕ) (f : ℕ → List (List ℕ) → Result X LineError) (ws : List (List ℕ)) (e : LineError) → NumberTaken (reads k) ws (Err e)
    → Err e ≡ number_before k f ws
told_none k f ws e h = missed k f ws e (number_here k ws (Err e) h)

-- where a number is read, the words behind it tell the rest
pub told_on : {X : Type 0} (k : ℕ) (f : ℕ → List (List ℕ) → Result X LineError) (ws : List (List ℕ)) (n : ℕ) → NumberTaken (reads k) ws (Ok n)
    → f n (drop 1 ws) ≡ number_before k f ws
told_on k f ws n h = met k f ws n (number_here k ws (Ok n) h)

-- a line whose first word is a letter: the words behind it, which are left, tell the line
pub told_line : (s t : Split ℕ) (o : Option (Bor (List ℕ))) (x : Bor (List ℕ)) (line letter : List ℕ) → split_text s ≡ line → split_has_more s ≡ true
    → split_pattern s ≡ 32 → steps s o t → o ≡ Some x → x.now ≡ letter → (vs : List (List ℕ)) × (meaning_of_letter letter vs ≡ line_in line) × WordsLeft t vs
told_line s t o x line letter text more pattern h some is =
    let l = (YieldsList-from_str_split 32 line (lit< tt) text more pattern).runs in
    let f = word_came s t x (words_of line) l (subst (λ y. steps s y t) some h) in
    (f.0, ap (λ y. meaning_of_letter y f.0) (sym is) ∙ ap meaning_of_words (sym f.1), f.2)

not_that : (w letter : List ℕ) → (w ≡ letter → ⊥) → bytes_eq w letter ≡ false
not_that w letter h = off (bytes_eq w letter) (λ t. h ((bytes_eq-Decides w letter).0 t))

skipped : {X : Type 0} (b : Bool) (x y : X) → b ≡ false → (if b then x else y) ≡ y
skipped b x y e = ap (λ v. if v then x else y) e

-- another word than the letters tells nothing
pub told_unknown : (w : List ℕ) (vs : List (List ℕ)) → (w ≡ codes "d" → ⊥) → (w ≡ codes "o" → ⊥) → (w ≡ codes "r" → ⊥) → (w ≡ codes "x" → ⊥)
    → (w ≡ codes "j" → ⊥) → (w ≡ codes "q" → ⊥) → meaning_of_letter w vs ≡ Err UnknownLetter
told_unknown w vs d o r x j q =
    skipped _ _ _ (not_that w _ d)
    ∙ skipped _ _ _ (not_that w _ o)
    ∙ skipped _ _ _ (not_that w _ r)
    ∙ skipped _ _ _ (not_that w _ x)
    ∙ skipped _ _ _ (ap (λ v. v || bytes_eq w (codes "q")) (not_that w _ j) ∙ not_that w _ q)
