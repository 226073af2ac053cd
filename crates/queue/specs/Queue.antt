-- What one call does to a queue: slots, and a count of those in use. Assumes nothing.
--     elements slots used              what the queue holds: its first used slots, or all where there are fewer
--     Adds slots used x ..             x came in, and a slot more is in use
--     Refuses slots used fault ..      every slot is in use, and nothing changed
--     Takes slots used x ..            x went out, and its slot is free
--     HoldsNone slots used ..          nothing is held, and nothing changed
--     IsNext slots used x              x is held, and is the next to be taken
--     Putting slots used x answer ..   what `put` does, by its answer
--     Taking slots used answer ..      what `take` does, by its answer
--     Peeking slots used answer        what `peek` answers
-- `..` stands for the slots and the count that the call leaves, which are the last two arguments. Of the fields
--     room, full          when it comes to this: a slot is free, or none is
--     some, none          when it comes to this: something is held, or nothing is
--     slots_same, used_same, fault_is  nothing changed, and the fault is 16
--     next                the first slot holds x
--     count, long         what the count is after, and that there are as many slots
--     bag                 no element is lost and none is made; `IsPermutation xs ys` is the library's: ys is a rearrangement of xs
--     beyond              the slots that are not in use are unchanged, and the one that a take frees holds what went out
--     heaped              heap order is kept
--     least, only         what a queue in heap order gives is least, and the only least one where the order is connected
use Rattle.std.specs.Prelude.{◌≡◌, ℕ, ◌+◌, ◌<◌, ◌≤◌, min, Bool, List, [], ◌∷◌, ◌++◌, length, take, drop, Some, None, Ok, Err, Option, Result, slice_index_or}
use Rattle.std.specs.List.Sorted.{IsPermutation}
use Rattle.faults.specs.declared.Fault.{Fault}
use Rattle.faults.specs.declared.Fault.TheVariants.{WorkTableTooShort}
use Rattle.queue.specs.Order.{IsConnected, IsLeast, IsHeapOrdered}

abbrev pub elements : {X : Type 0} → List X → ℕ → List X
elements slots used = take used slots

pub record Refuses {X : Type 0} (slots : List X) (used : ℕ) (fault : Fault) (slots' : List X) (used' : ℕ) : Type 0 where
  pub fault_is : fault ≡ WorkTableTooShort
  pub full : length slots ≤ used
  pub slots_same : slots' ≡ slots
  pub used_same : used' ≡ used

pub record HoldsNone {X : Type 0} (slots : List X) (used : ℕ) (slots' : List X) (used' : ℕ) : Type 0 where
  pub none : min used (length slots) ≡ 0
  pub slots_same : slots' ≡ slots
  pub used_same : used' ≡ used

module _ {X : Type 0} (before : X → X → Bool) where
  pub record Adds (slots : List X) (used : ℕ) (x : X) (slots' : List X) (used' : ℕ) : Type 0 where
    pub room : used < length slots
    pub count : used' ≡ used + 1
    pub bag : IsPermutation (elements slots used ++ x ∷ []) (elements slots' used')
    pub beyond : drop used' slots' ≡ drop used' slots
    pub long : length slots' ≡ length slots
    pub heaped : IsHeapOrdered before (elements slots used) → IsHeapOrdered before (elements slots' used')

  pub record Takes (slots : List X) (used : ℕ) (x : X) (slots' : List X) (used' : ℕ) : Type 0 where
    pub count : used' + 1 ≡ min used (length slots)
    pub bag : IsPermutation (elements slots used) (x ∷ elements slots' used')
    pub beyond : drop used' slots' ≡ x ∷ drop used slots
    pub long : length slots' ≡ length slots
    pub heaped : IsHeapOrdered before (elements slots used) → IsHeapOrdered before (elements slots' used')
    pub least : IsHeapOrdered before (elements slots used) → IsLeast before x (elements slots used)
    pub only : IsConnected before → IsHeapOrdered before (elements slots used) → (y : X) → IsLeast before y (elements slots used) → y ≡ x

  pub record IsNext (slots : List X) (used : ℕ) (x : X) : Type 0 where
    pub some : 0 < min used (length slots)
    pub next : (d : X) → slice_index_or slots 0 d ≡ x
    pub least : IsHeapOrdered before (elements slots used) → IsLeast before x (elements slots used)

  abbrev pub Putting : List X → ℕ → X → Result (Unit {0}) Fault → List X → ℕ → Type 0
  Putting slots used x (Ok _) slots' used' = Adds slots used x slots' used'
  Putting slots used x (Err fault) slots' used' = Refuses slots used fault slots' used'

  abbrev pub Peeking : List X → ℕ → Option X → Type 0
  Peeking slots used (Some x) = IsNext slots used x
  Peeking slots used None = min used (length slots) ≡ 0

  abbrev pub Taking : List X → ℕ → Option X → List X → ℕ → Type 0
  Taking slots used (Some x) slots' used' = Takes slots used x slots' used'
  Taking slots used None slots' used' = HoldsNone slots used slots' used'
