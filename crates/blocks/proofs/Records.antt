-- The records of bytes.
use Rattle.std.proofs.Common.{◌≡◌, ℕ, zero, suc, ◌+◌, ◌*◌, ◌%◌, ◌<◌, ◌≤◌, List, [], ◌∷◌, ◌++◌, length, get_or, take, drop, Ok, sym, refl, ap, ap₂, ◌∙◌, arith}
use Rattle.std.proofs.lemmas.List.{drop-append-le, get_or-drop, get_or-take, length-drop, take-append-drop, take-append-le, take_all}
use Rattle.std.specs.List.{AllByRecursion, concat}
use Rattle.std.specs.Simd.{first_chunks}
use Rattle.std.proofs.lemmas.Bool.{eqb-true, leb-true}
use Rattle.faults.specs.Rules.{IsKept, ruling}
use Rattle.faults.proofs.Rules.{kept_from_ok, tests_true, value_from_ok}
use Rattle.blocks.specs.Rows.{count, records_of, size_rules}

-- what is known of bytes that are whole records only, and at most so many, and of these records
pub record Sized (most : ℕ) (bs : List ℕ) (rs : List (List ℕ)) : Type 0 where
  pub kept : IsKept (size_rules most bs)
  pub whole : length bs ≡ count bs * 16
  pub few : length rs ≤ most
  pub records : rs ≡ records_of bs

pub length-first_chunks : (k : ℕ) (bs : List ℕ) → length (first_chunks 16 k bs) ≡ k
length-first_chunks zero bs = refl
length-first_chunks (suc k) bs = ap suc (length-first_chunks k (drop 16 bs))

pub sized : (most : ℕ) (bs : List ℕ) (rs : List (List ℕ)) → Ok rs ≡ ruling (size_rules most bs) (records_of bs) → Sized most bs rs
sized most bs rs h =
    let all : IsKept (size_rules most bs) = kept_from_ok _ _ _ (sym h) in
    let k = tests_true (size_rules most bs) all in
    let few = leb-true (count bs) most k.1.0 in
    let e : rs ≡ records_of bs = sym (value_from_ok _ _ _ (sym h)) in
    record {
      kept = all;
      whole = omega (arith, eqb-true (length bs % 16) 0 k.0);
      few = omega (arith, ap length e, length-first_chunks (count bs) bs);
      records = e;
    }

pub concat-first_chunks : (k : ℕ) (bs : List ℕ) → length bs ≡ k * 16 → concat (first_chunks 16 k bs) ≡ bs
concat-first_chunks zero [] h = refl
concat-first_chunks zero (b ∷ bs) h = absurd (omega arith)
concat-first_chunks (suc k) bs h =
    ap (λ l. take 16 bs ++ l) (concat-first_chunks k (drop 16 bs) (omega (arith, length-drop 16 bs))) ∙ take-append-drop 16 bs

pub take-first_chunks : (k n : ℕ) (bs : List ℕ) → k ≤ n → take k (first_chunks 16 n bs) ≡ first_chunks 16 k bs
take-first_chunks zero n bs h = refl
take-first_chunks (suc k) zero bs h = absurd (omega arith)
take-first_chunks (suc k) (suc n) bs h = ap (λ l. take 16 bs ∷ l) (take-first_chunks k n (drop 16 bs) (omega arith))

-- bytes that begin with k records, whatever stands behind them
pub first_chunks-append : (k : ℕ) (bs cs : List ℕ) → k * 16 ≤ length bs → first_chunks 16 k (bs ++ cs) ≡ first_chunks 16 k bs
first_chunks-append zero bs cs h = refl
first_chunks-append (suc k) bs cs h =
    ap₂ ◌∷◌ (take-append-le 16 bs cs (omega arith))
    (ap (first_chunks 16 k) (drop-append-le 16 bs cs (omega arith)) ∙ first_chunks-append k (drop 16 bs) cs (omega (arith, length-drop 16 bs)))

-- a record behind k records
pub first_chunks_push : (k : ℕ) (bs r : List ℕ) → length bs ≡ k * 16 → length r ≡ 16 → first_chunks 16 (suc k) (bs ++ r) ≡ first_chunks 16 k bs ++ r ∷ []
first_chunks_push zero [] r h l = ap (λ x. x ∷ []) (take_all 16 r (omega arith))
first_chunks_push zero (b ∷ bs) r h l = absurd (omega arith)
first_chunks_push (suc k) bs r h l =
    ap₂ ◌∷◌ (take-append-le 16 bs r (omega arith))
    (ap (first_chunks 16 (suc k)) (drop-append-le 16 bs r (omega arith)) ∙ first_chunks_push k (drop 16 bs) r (omega (arith, length-drop 16 bs)) l)

-- each of the sixteen bytes of a record
pub bytes_first_chunks : (k : ℕ) (bs : List ℕ) → ((i : ℕ) → get_or bs i 0 < 256) → AllByRecursion (λ r. (i : ℕ) → i < 16 → get_or r i 0 < 256) (first_chunks 16 k bs)
bytes_first_chunks zero bs small = tt
bytes_first_chunks (suc k) bs small = (
  λ i h. omega (arith, get_or-take 16 bs i 0 h, small i),
  bytes_first_chunks k (drop 16 bs) (λ i. omega (arith, get_or-drop 16 bs i 0, small (16 + i))),
)
