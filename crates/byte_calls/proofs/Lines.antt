-- The first line of a text, by its first byte 10.
use Rattle.std.proofs.Common.{◌≡◌, ℕ, ◌+◌, ◌-◌, ◌<◌, List, [], ◌∷◌, ◌++◌, length, get_or, take, drop, Some, None, inl, inr, sym, refl, ap, ◌∙◌, arith}
use Rattle.std.proofs.Math.Seq.{drop-cons}
use Rattle.std.proofs.lemmas.Bool.{eq-eqb, eqb-true}
use Rattle.std.proofs.lemmas.List.{get_or-take, length-drop, length-take-le, take-append-drop, take_all}
use Rattle.memchr.specs.Find.{IsFirstByte, is_byte}
use Rattle.dialogue.specs.Conversations.{IsFirstLine}

-- what a slice from a place on is
rest_from : (bs : List ℕ) (n : ℕ) → take (length bs - n) (drop n bs) ≡ drop n bs
rest_from bs n = take_all (length bs - n) (drop n bs) (omega (arith, length-drop n bs))

pub line_cut : (bs : List ℕ) (k : ℕ) → IsFirstByte (is_byte 10) bs (Some k) → IsFirstLine bs (take k bs) (take (length bs - (k + 1)) (drop (k + 1) bs))
line_cut bs k f =
    let long : length (take k bs) ≡ k = length-take-le k bs (omega (arith, f.0.high)) in
    let ten : get_or bs k 0 ≡ 10 = eqb-true _ 10 f.1 in
    let next : Prim.Native.Nat.suc k ≡ k + 1 = omega arith in
    record {
      whole = λ i lt e. f.0.before i (omega arith) (omega (arith, lt, long)) (eq-eqb _ 10 (sym (get_or-take k bs i 0 (omega (arith, lt, long))) ∙ e));
      ends =
          inl (sym (take-append-drop k bs)
          ∙ ap (λ x. take k bs ++ x) (drop-cons bs k 0 f.0.high ∙ ap (λ n. get_or bs k 0 ∷ drop n bs) next ∙ ap (λ x. x ∷ drop (k + 1) bs) ten ∙ ap (λ x. 10 ∷ x) (sym (rest_from bs (k + 1)))));
    }

pub line_last : (bs : List ℕ) → 0 < length bs → IsFirstByte (is_byte 10) bs None → IsFirstLine bs bs []
line_last bs some f =
    record { whole = λ i lt e. f i (omega arith) lt (eq-eqb _ 10 e); ends = inr (refl, refl, some) }
