-- Runs of calls, and what a priority queue answers to them. Assumes nothing.
--     Call X                          a call with its answer
--     Calls before s u cs s' u'       the calls cs in turn took a queue from slots s and count u to slots s' and count u'
--     Answers before n bag c bag'     a priority queue with room for n elements that holds bag answers c, and holds bag' then
--     Run before n bag cs bag'        it answers the calls cs in turn
--     PriorityQueue before s          any calls, begun on an empty queue over the slots s, are answered as by a priority queue
--                                     with room for as many elements, which then holds what the queue holds, as many as the count
--     DrainsRising before s           after such calls, taking until none is left gives what was held, rising
-- A bag is a list of which the order tells nothing.
use Rattle.std.specs.Prelude.{◌≡◌, ℕ, ◌<◌, ◌≤◌, Bool, List, [], ◌∷◌, ◌++◌, map, length, Some, None, Ok, Err, Option, Result}
use Rattle.std.specs.List.Sorted.{IsPermutation}
use Rattle.faults.specs.declared.Fault.{Fault}
use Rattle.faults.specs.declared.Fault.TheVariants.{WorkTableTooShort}
use Rattle.queue.specs.Order.{IsLeast, IsRising}
use Rattle.queue.specs.Queue.{elements, Putting, Taking}

pub data Call (X : Type 0) : Type 0 where
  puts : X → Result (Unit {0}) Fault → Call X
  takes : Option X → Call X

module _ {X : Type 0} (before : X → X → Bool) where
  abbrev pub Calls : List X → ℕ → List (Call X) → List X → ℕ → Type 0
  Calls slots used [] slots' used' = (slots' ≡ slots) × (used' ≡ used)
  Calls slots used (puts x answer ∷ calls) slots' used' = (next : List X) × (count : ℕ) × Putting before slots used x answer next count × Calls next count calls slots' used'
  Calls slots used (takes answer ∷ calls) slots' used' = (next : List X) × (count : ℕ) × Taking before slots used answer next count × Calls next count calls slots' used'

  abbrev pub Answers : ℕ → List X → Call X → List X → Type 0
  Answers room bag (puts x (Ok _)) bag' = (length bag < room) × IsPermutation (x ∷ bag) bag'
  Answers room bag (puts x (Err fault)) bag' = (room ≤ length bag) × (fault ≡ WorkTableTooShort) × IsPermutation bag bag'
  Answers room bag (takes (Some x)) bag' = IsLeast before x bag × IsPermutation bag (x ∷ bag')
  Answers room bag (takes None) bag' = (bag ≡ []) × (bag' ≡ [])

  abbrev pub Run : ℕ → List X → List (Call X) → List X → Type 0
  Run room bag [] bag' = IsPermutation bag bag'
  Run room bag (call ∷ calls) bag' = (next : List X) × Answers room bag call next × Run room next calls bag'

  abbrev pub PriorityQueue : List X → Type 0
  PriorityQueue slots = (calls : List (Call X)) (slots' : List X) (used' : ℕ)
      → Calls slots 0 calls slots' used' → Run (length slots) [] calls (elements slots' used') × (length (elements slots' used') ≡ used')

  abbrev pub DrainsRising : List X → Type 0
  DrainsRising slots = (calls : List (Call X)) (slots' : List X) (used' : ℕ) (ys : List X) (slots'' : List X) (used'' : ℕ)
      → Calls slots 0 calls slots' used' → Calls slots' used' (map (λ y. takes (Some y)) ys ++ takes None ∷ []) slots'' used''
      → IsRising before ys × IsPermutation (elements slots' used') ys
