-- Memory that is put back after a refused load.
use Rattle.std.proofs.Common.{◌≡◌, ℕ, ◌+◌, ◌*◌, ◌-◌, ◌≤◌, min, List, ◌++◌, length, take, drop, Ok, Err, Result, sym, refl, ap, ◌∙◌, subst, arith}
use Rattle.std.proofs.lemmas.Bool.{both_ways}
use Rattle.std.proofs.lemmas.List.{drop-drop, length-append, length-drop, length-take-le, take-append-drop, take_at}
use Rattle.std.specs.Result.{IsErr}
use Rattle.faults.specs.declared.Fault.{Fault}
use Rattle.records.specs.Limits.{most_events}
use Rattle.blocks.specs.Loads.{Filling, added, begun}
use Rattle.blocks.proofs.Fills.{add_bounds, filled_from_filling}
use Rattle.byte_calls.specs.Loadings.{Fills, Loads}

-- how far a load reaches
filling_room : {o : List ℕ} {rs : List (List ℕ)} {m : List ℕ} {n : ℕ} → Filling o rs m n → (n ≤ most_events) × (16 * n ≤ length o) × (length m ≡ length o)
filling_room begun = (omega arith, omega arith, refl)
filling_room {o} (added {rs} {m} {n} r f k) =
    let h = filling_room f in
    let b = add_bounds m n r k in (
      b.few,
      omega (arith, b.room, h.2),
      omega (
        arith,
        length-append (take (16 * n) m) (r ++ drop (16 * n + length r) m),
        length-append r (drop (16 * n + length r) m),
        length-take-le (16 * n) m (omega (arith, b.room)),
        length-drop (16 * n + length r) m,
        b.long,
        b.room,
        h.2,
      ),
    )

-- what a load leaves behind a place that it can't reach
behind_kept : (o : List ℕ) (rs : List (List ℕ)) (m : List ℕ) (n k : ℕ) → Filling o rs m n → k ≡ min (length o) (most_events * 16) → drop k m ≡ drop k o
behind_kept o rs m n k f e =
    let h = filling_room f in
    let reach : 16 * n + (k - 16 * n) ≡ k = omega (arith, h.0, h.1, e) in
    subst (λ x. drop x m ≡ drop x o) reach
    (sym (drop-drop (k - 16 * n) (16 * n) m) ∙ ap (drop (k - 16 * n)) (filled_from_filling o rs m n f).rest ∙ drop-drop (k - 16 * n) (16 * n) o)

pub restored : (m bs front w : List ℕ) (r : Result ℕ Fault) (k : ℕ) → IsErr r → Fills m bs r w → k ≡ min (length m) (most_events * 16) → front ≡ take k m → Loads m bs r (front ++ drop k w)
restored m bs front w (Err f) k e s h c =
    (ap (λ x. x ++ drop k w) c ∙ ap (λ x. take k m ++ x) (behind_kept m s.held w s.number k s.filling h) ∙ take-append-drop k m, (w, s))
restored m bs front w (Ok n) k e s h c = absurd (both_ways _ refl e)

-- what is copied back is what was copied
pub copied_back : (m x y z : List ℕ) (k : ℕ) → k ≡ min (length m) (most_events * 16) → x ≡ take k m → y ≡ take k (x ++ z) → y ≡ take k m
copied_back m x y z k e hx hy =
    hy ∙ take_at x z k (ap (λ l. length l) hx ∙ length-take-le k m (omega (arith, e))) ∙ hx
