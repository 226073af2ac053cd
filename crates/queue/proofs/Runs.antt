-- Calls that meet their contracts are answered as by a priority queue. Assumes nothing.
use Rattle.std.proofs.Common.{◌≡◌, ℕ, ◌≤◌, Bool, false, List, [], ◌∷◌, ◌++◌, map, length, Some, None, Ok, Err, sym, refl, ◌∙◌, subst, arith}
use Rattle.std.specs.List.Sorted.{IsPermutation}
use Rattle.std.specs.List.{AllByRecursion}
use Rattle.std.proofs.lemmas.List.{length-take, nil_from_length}
use Rattle.std.proofs.lemmas.List.Sorted.{IsPermutation-cons, IsPermutation-refl, IsPermutation-sym, IsPermutation-to_front, IsPermutation-trans}
use Rattle.std.proofs.ByRecursion.{all_shuffled}
use Rattle.queue.specs.Order.{IsHeapOrdered, IsRising}
use Rattle.queue.specs.Queue.{elements, HoldsNone}
use Rattle.queue.specs.Runs.{Call, puts, takes, Calls, Run, PriorityQueue, DrainsRising}

pub empty_holds_none : {X : Type 0} (slots : List X) (used : ℕ) (slots' : List X) (used' : ℕ) → HoldsNone slots used slots' used' → elements slots used ≡ []
empty_holds_none slots used slots' used' e = nil_from_length (elements slots used) (omega (arith, length-take used slots, e.none))

module _ {X : Type 0} (before : X → X → Bool) where
  -- a queue in heap order, whose count is within its slots
  record Sound (room : ℕ) (slots : List X) (used : ℕ) : Type 0 where
    long : length slots ≡ room
    within : used ≤ room
    heaped : IsHeapOrdered before (elements slots used)

  empty : (slots : List X) → Sound (length slots) slots 0
  empty slots = record { long = refl; within = omega arith; heaped = λ p k d a b f. absurd (omega arith) }

  unchanged : (room : ℕ) (slots : List X) (used : ℕ) (slots' : List X) (used' : ℕ) → slots' ≡ slots → used' ≡ used → Sound room slots used
      → IsPermutation (elements slots used) (elements slots' used') × Sound room slots' used'
  unchanged room slots used slots' used' p q s =
      let P : List X → ℕ → Type 0 = λ l n. IsPermutation (elements slots used) (elements l n) × Sound room l n in
      subst (λ l. P l used') (sym p) (subst (P slots) (sym q) (IsPermutation-refl (elements slots used), s))

  answered : (room : ℕ) (slots : List X) (used : ℕ) (calls : List (Call X)) (slots' : List X) (used' : ℕ)
      → Sound room slots used → Calls before slots used calls slots' used'
      → Run before room (elements slots used) calls (elements slots' used') × Sound room slots' used'
  answered room slots used [] slots' used' s k = unchanged room slots used slots' used' k.0 k.1 s
  answered room slots used (puts x (Ok done) ∷ calls) slots' used' s k =
      let step = k.2 in
      let next = elements k.0 k.1 in
      let sound : Sound room k.0 k.1 = record { long = step.long ∙ s.long; within = omega (arith, step.room, step.count, s.long); heaped = step.heaped s.heaped } in
      let rest = answered room k.0 k.1 calls slots' used' sound k.3 in
      let comes : IsPermutation (x ∷ elements slots used) next = IsPermutation-trans _ _ _ (IsPermutation-sym _ _ (IsPermutation-to_front (elements slots used) x)) step.bag in
      ((next, (omega (arith, length-take used slots, step.room, s.long), comes), rest.0), rest.1)
  answered room slots used (puts x (Err fault) ∷ calls) slots' used' s k =
      let step = k.2 in
      let same = unchanged room slots used k.0 k.1 step.slots_same step.used_same s in
      let rest = answered room k.0 k.1 calls slots' used' same.1 k.3 in
      ((elements k.0 k.1, (omega (arith, length-take used slots, step.full, s.long), step.fault_is, same.0), rest.0), rest.1)
  answered room slots used (takes (Some x) ∷ calls) slots' used' s k =
      let step = k.2 in
      let sound : Sound room k.0 k.1 = record { long = step.long ∙ s.long; within = omega (arith, step.count, s.within); heaped = step.heaped s.heaped } in
      let rest = answered room k.0 k.1 calls slots' used' sound k.3 in
      ((elements k.0 k.1, (step.least s.heaped, step.bag), rest.0), rest.1)
  answered room slots used (takes None ∷ calls) slots' used' s k =
      let step = k.2 in
      let none = empty_holds_none slots used k.0 k.1 step in
      let same = unchanged room slots used k.0 k.1 step.slots_same step.used_same s in
      let rest = answered room k.0 k.1 calls slots' used' same.1 k.3 in
      ((elements k.0 k.1, (none, (λ i. elements (step.slots_same i) (step.used_same i)) ∙ none), rest.0), rest.1)

  pub priority_queue : (slots : List X) → PriorityQueue before slots
  priority_queue slots calls slots' used' k =
      let run = answered (length slots) slots 0 calls slots' used' (empty slots) k in
      (run.0, omega (arith, length-take used' slots', run.1.long, run.1.within))

  drains : (slots : List X) (used : ℕ) (ys slots' : List X) (used' : ℕ) → IsHeapOrdered before (elements slots used)
      → Calls before slots used (map (λ y. takes (Some y)) ys ++ takes None ∷ []) slots' used' → IsRising before ys × IsPermutation (elements slots used) ys
  drains slots used [] slots' used' h k = (tt, subst (λ l. IsPermutation l []) (sym (empty_holds_none slots used k.0 k.1 k.2)) (IsPermutation-refl []))
  drains slots used (y ∷ ys) slots' used' h k =
      let step = k.2 in
      let next = elements k.0 k.1 in
      let P : X → Type 0 = λ z. before z y ≡ false in
      let rest = drains k.0 k.1 ys slots' used' (step.heaped h) k.3 in
      let later : AllByRecursion P (y ∷ next) = all_shuffled P (elements slots used) (y ∷ next) step.bag (step.least h).none_before in
      ((all_shuffled P next ys rest.1 later.1, rest.0), IsPermutation-trans (elements slots used) (y ∷ next) (y ∷ ys) step.bag (IsPermutation-cons y next ys rest.1))

  pub drained : (slots : List X) → DrainsRising before slots
  drained slots calls slots' used' ys slots'' used'' k = drains slots' used' ys slots'' used'' (answered (length slots) slots 0 calls slots' used' (empty slots) k).1.heaped
