-- What is left to be written, and whether all was.
use Rattle.std.proofs.Common.{IsOk, OnOk, ◌≡◌, ℕ, ◌-◌, List, Ok, Err, Result, length, take, drop, refl, arith, length-drop, take_all}
use Rattle.std.proofs.lemmas.Bool.{both_ways}

pub slice_end : (bs : List ℕ) (n : ℕ) → take (length bs - n) (drop n bs) ≡ drop n bs
slice_end bs n = take_all (length bs - n) (drop n bs) (omega (arith, length-drop n bs))

pub of_ok : {T E : Type 0} {P : Type 0} (r : Result T E) → IsOk r → OnOk r P → P
of_ok (Ok x) o p = p
of_ok (Err e) o p = absurd (both_ways _ refl o)

pub on_ok : {T E : Type 0} {P : Type 0} (r : Result T E) → P → OnOk r P
on_ok (Ok x) p = p
on_ok (Err e) p = tt
