-- Rules that are tested on one record after another.
use Rattle.std.proofs.Common.{◌≡◌, ℕ, zero, suc, ◌+◌, ◌<◌, List, [], ◌∷◌, ◌++◌, length, drop, Some, Option, Result, sym, ap, ap₂, ◌∙◌, subst, arith}
use Rattle.std.proofs.lemmas.List.{drop_all, drop_more}
use Rattle.std.proofs.lemmas.Result.{err_from_is_err_and}
use Rattle.std.specs.Result.{IsErrAnd}
use Rattle.std.specs.List.{flat_map, range_with_len}
use Rattle.faults.specs.declared.Fault.{Fault}
use Rattle.faults.specs.Rules.{Rule, IsKept, first_fault, ruling_by}
use Rattle.faults.proofs.Rules.{first_broken_broken, first_broken_kept, judged_broken, kept_append}
use Rattle.blocks.specs.Rows.{record_at}

-- the rules of the records rs in turn, of which the first is record p: record i is r obeys `rules s i r`, where s is what is
-- kept of the records before it, and `next s r` what is kept with it
abbrev pub rules_in_turn : {S : Type 0} → (S → ℕ → List ℕ → List Rule) → (S → List ℕ → S) → S → ℕ → List (List ℕ) → List Rule
rules_in_turn rules next s p [] = []
rules_in_turn rules next s p (r ∷ rs) = rules s p r ++ rules_in_turn rules next (next s r) (p + 1) rs

-- where the records before record i are tested, and s is kept of them
module _ {S : Type 0} (rules : S → ℕ → List ℕ → List Rule) (next : S → List ℕ → S) (rs : List (List ℕ)) (s : S) (i : ℕ) (h : i < length rs) where
  abbrev r : List ℕ
  r = record_at rs i

  turn : rules_in_turn rules next s i (drop i rs) ≡ rules s i r ++ rules_in_turn rules next (next s r) (i + 1) (drop (i + 1) rs)
  turn = ap (rules_in_turn rules next s i) (drop_more rs i [] h)

  pub turn_kept : IsKept (rules s i r) → first_fault (rules_in_turn rules next (next s r) (i + 1) (drop (i + 1) rs)) ≡ first_fault (rules_in_turn rules next s i (drop i rs))
  turn_kept k = sym (ap first_fault turn ∙ first_broken_kept (rules s i r) _ k)

  pub turn_broken : (f : Fault) → first_fault (rules s i r) ≡ Some f → first_fault (rules_in_turn rules next s i (drop i rs)) ≡ Some f
  turn_broken f b = ap first_fault turn ∙ first_broken_broken (rules s i r) _ f b

-- the rules in turn are the rules by place: record i obeys `at i`, and what is kept of the records before it is `given i`
module _ {S : Type 0} (rules : S → ℕ → List ℕ → List Rule) (next : S → List ℕ → S) (rs : List (List ℕ)) (given : ℕ → S) (at : ℕ → List Rule)
    (same : (i : ℕ) → i < length rs → (given (i + 1) ≡ next (given i) (record_at rs i)) × (at i ≡ rules (given i) i (record_at rs i))) where
  from_place : (n i : ℕ) → i + n ≡ length rs → rules_in_turn rules next (given i) i (drop i rs) ≡ flat_map at (range_with_len i n)
  from_place zero i e = ap (rules_in_turn rules next (given i) i) (drop_all i rs (omega arith))
  from_place (suc n) i e =
      let h : i < length rs = omega arith in
      turn rules next rs (given i) i h
      ∙ ap₂ ◌++◌ (sym (same i h).1) (ap (λ s. rules_in_turn rules next s (i + 1) (drop (i + 1) rs)) (sym (same i h).0) ∙ from_place n (i + 1) (omega arith))

  pub in_turn_by_place : rules_in_turn rules next (given 0) 0 rs ≡ flat_map at (range_with_len 0 (length rs))
  in_turn_by_place = from_place (length rs) 0 (omega arith)

-- the rules of one place
pub kept_at : (at : ℕ → List Rule) (a n i j : ℕ) → a + i ≡ j → i < n → IsKept (flat_map at (range_with_len a n)) → IsKept (at j)
kept_at at a zero i j e h k = absurd (omega arith)
kept_at at a (suc n) zero j e h k =
    let e' : a ≡ j = omega arith in subst (λ p. IsKept (at p)) e' (kept_append (at a) (flat_map at (range_with_len (a + 1) n)) k).0
kept_at at a (suc n) (suc i) j e h k =
    kept_at at (a + 1) n i j (omega arith) (omega arith) (kept_append (at a) (flat_map at (range_with_len (a + 1) n)) k).1

-- what a `?` returns where a rule is broken
pub exit_broken : {T : Type 0} (r : Result T Fault) (f : Fault) (o : Option Fault) (x : T) → IsErrAnd r (λ e. e ≡ f) → o ≡ Some f → r ≡ ruling_by o x
exit_broken r f o x h b = let p = err_from_is_err_and r h in rw (p.1, p.2) (sym (judged_broken o x f b))
