-- Memory that is being filled with the records in a row of bytes.
use Rattle.std.proofs.Common.{◌≡◌, ℕ, ◌<◌, min, Bool, true, false, leb, ◌⊎◌, List, [], ◌∷◌, ◌++◌, length, Some, Ok, Err, Result, is_ok, if◌then◌else◌, inl, inr, sym, refl, ap, ◌∙◌, subst, arith}
use Rattle.std.proofs.lemmas.Bool.{leb-false, leb-true}
use Rattle.std.proofs.lemmas.Grind.{flat_map-append}
use Rattle.std.proofs.lemmas.List.{append_assoc, append-nil, length-append, nil_from_length}
use Rattle.std.specs.List.{flat_map}
use Rattle.faults.specs.declared.Fault.{Fault}
use Rattle.faults.specs.Rules.{first_fault}
use Rattle.blocks.specs.Loads.{IsFilledWith, Filling, add_rules}
use Rattle.byte_calls.specs.Loadings.{Fills, IsStopped}

-- some records are held, and so many bytes are left
pub record Underway (o bs left m : List ℕ) (n : ℕ) : Type 0 where
  pub held : List (List ℕ)
  pub parts : bs ≡ flat_map (λ r. r) held ++ left
  pub filling : Filling o held m n

pub underway_begun : (o bs : List ℕ) → Filling o [] o 0 → Underway o bs bs o 0
underway_begun o bs f = record { held = []; parts = refl; filling = f }

-- one record more
pub underway_on : (o bs left r rest m m' : List ℕ) (n n' : ℕ) → left ≡ r ++ rest → (u : Underway o bs left m n) → Filling o (u.held ++ r ∷ []) m' n' → Underway o bs rest m' n'
underway_on o bs left r rest m m' n n' e u f =
    record {
      held = u.held ++ r ∷ [];
      parts =
          u.parts
          ∙ ap (λ x. flat_map (λ r. r) u.held ++ x) e
          ∙ sym (append_assoc (flat_map (λ r. r) u.held) r rest)
          ∙ ap (λ x. flat_map (λ r. r) u.held ++ x ++ rest) (sym (append-nil r))
          ∙ ap (λ x. x ++ rest) (sym (flat_map-append (λ r. r) u.held (r ∷ [])));
      filling = f;
    }

-- no record more
pub underway_ends : (o bs left m m' : List ℕ) (n k : ℕ) → length left ≡ 0 → (u : Underway o bs left m n) → IsFilledWith o u.held m' k → (rs : List (List ℕ)) × (bs ≡ flat_map (λ r. r) rs) × IsFilledWith o rs m' k
underway_ends o bs left m m' n k e u f =
    (u.held, u.parts ∙ ap (λ x. flat_map (λ r. r) u.held ++ x) (nil_from_length left e) ∙ append-nil (flat_map (λ r. r) u.held), f)

-- a record of sixteen bytes, or all that is left
cut_at : (left r rest : List ℕ) → left ≡ r ++ rest → length r ≡ min 16 (length left) → (length r ≡ 16) ⊎ ((length r < 16) × (rest ≡ []))
cut_at left r rest e cut = by_test (leb 16 (length left)) refl
  where
    by_test : (t : Bool) → leb 16 (length left) ≡ t → (length r ≡ 16) ⊎ ((length r < 16) × (rest ≡ []))
    by_test true h = inl (omega (arith, cut, leb-true 16 (length left) h))
    by_test false h =
        let short = leb-false 16 (length left) h in
        inr (omega (arith, cut, short), nil_from_length rest (omega (arith, cut, short, ap (λ x. length x) e, length-append r rest)))

-- a record that is refused
pub underway_stops : (o bs left r rest m m' : List ℕ) (n : ℕ) (f : Fault) → left ≡ r ++ rest → length r ≡ min 16 (length left) → 0 < length left → m' ≡ m → Underway o bs left m n → first_fault (add_rules m n r) ≡ Some f → IsStopped o bs f m'
underway_stops o bs left r rest m m' n f e cut some same u broken =
    record {
      held = u.held;
      next = r;
      behind = rest;
      number = n;
      parts = u.parts ∙ ap (λ x. flat_map (λ r. r) u.held ++ x) e;
      some = omega (arith, cut, some);
      cut = cut_at left r rest e cut;
      filling = subst (λ x. Filling o u.held x n) (sym same) u.filling;
      broken = subst (λ x. first_fault (add_rules x n r) ≡ Some f) (sym same) broken;
    }

-- the same memory, by another name
pub fills_at : (o o' bs m m' : List ℕ) (n : ℕ) → m' ≡ m → o ≡ o' → Fills o bs (Ok n) m → Fills o' bs (Ok n) m'
fills_at o o' bs m m' n h e f = subst (λ x. Fills o' bs (Ok n) x) (sym h) (subst (λ x. Fills x bs (Ok n) m) e f)

-- a refused record leaves the memory
pub kept_after : {T : Type 0} (a : Result T Fault) (f : Fault) (x y z : List ℕ) → a ≡ Err f → z ≡ (if is_ok a then x else y) → z ≡ y
kept_after a f x y z e h = h ∙ ap (λ b. if is_ok b then x else y) e
