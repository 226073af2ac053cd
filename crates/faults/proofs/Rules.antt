-- Lists of rules: what keeping all of them says of each, and what a broken one says of their faults.
use Rattle.std.proofs.Common.{◌≡◌, true, false, List, [], ◌∷◌, ◌++◌, Some, None, Ok, Err, Option, refl, arith}
use Rattle.std.specs.List.{AllByRecursion}
use Rattle.faults.specs.declared.Fault.{Fault}
use Rattle.faults.specs.Rules.{Rule, IsKept, first_fault, ruling_by}

-- every test of a kept list is true, and a list of which every test is true is kept
pub tests_true : (rs : List Rule) → IsKept rs → AllByRecursion (λ r. r.0 ≡ true) rs
tests_true [] h = tt
tests_true ((true, f) ∷ rs) h = (refl, tests_true rs h)
tests_true ((false, f) ∷ rs) h = grind arith

pub kept_from_tests : (rs : List Rule) → AllByRecursion (λ r. r.0 ≡ true) rs → IsKept rs
kept_from_tests [] a = refl
kept_from_tests ((b, f) ∷ rs) a = rw a.0 (kept_from_tests rs a.1)

-- what is true of the fault of every rule is true of the fault that is met
pub fault_met : (P : Fault → Type 0) (rs : List Rule) (f : Fault) → AllByRecursion (λ r. P r.1) rs → first_fault rs ≡ Some f → P f
fault_met P [] f a h = grind arith
fault_met P ((true, g) ∷ rs) f a h = fault_met P rs f a.1 h
fault_met P ((false, g) ∷ rs) f a h = let e : g ≡ f = cc in rw (← e) a.0

pub first_broken_kept : (rs ss : List Rule) → IsKept rs → first_fault (rs ++ ss) ≡ first_fault ss
first_broken_kept [] ss h = refl
first_broken_kept ((true, f) ∷ rs) ss h = first_broken_kept rs ss h
first_broken_kept ((false, f) ∷ rs) ss h = grind arith

pub first_broken_broken : (rs ss : List Rule) (f : Fault) → first_fault rs ≡ Some f → first_fault (rs ++ ss) ≡ Some f
first_broken_broken [] ss f h = grind arith
first_broken_broken ((true, g) ∷ rs) ss f h = first_broken_broken rs ss f h
first_broken_broken ((false, g) ∷ rs) ss f h = h

-- an accepted value says that no rule was broken, and the other way round
pub kept_from_ok : {T : Type 0} (o : Option Fault) (x y : T) → ruling_by o x ≡ Ok y → o ≡ None
kept_from_ok None x y h = refl
kept_from_ok (Some f) x y h = grind arith

pub judged_kept : {T : Type 0} (o : Option Fault) (x : T) → o ≡ None → ruling_by o x ≡ Ok x
judged_kept None x h = refl
judged_kept (Some f) x h = grind arith

pub judged_broken : {T : Type 0} (o : Option Fault) (x : T) (f : Fault) → o ≡ Some f → ruling_by o x ≡ Err f
judged_broken None x f h = grind arith
judged_broken (Some g) x f h = cc

pub broken_from_err : {T : Type 0} (o : Option Fault) (x : T) (f : Fault) → ruling_by o x ≡ Err f → o ≡ Some f
broken_from_err None x f h = grind arith
broken_from_err (Some g) x f h = cc

-- a chain of two lists is kept where both are
pub kept_append : (rs ss : List Rule) → IsKept (rs ++ ss) → IsKept rs × IsKept ss
kept_append [] ss h = (refl, h)
kept_append ((true, f) ∷ rs) ss h = kept_append rs ss h
kept_append ((false, f) ∷ rs) ss h = grind arith

pub append_kept : (rs ss : List Rule) → IsKept rs → IsKept ss → IsKept (rs ++ ss)
append_kept [] ss h k = k
append_kept ((true, f) ∷ rs) ss h k = append_kept rs ss h k
append_kept ((false, f) ∷ rs) ss h k = grind arith

pub value_from_ok : {T : Type 0} (o : Option Fault) (x y : T) → ruling_by o x ≡ Ok y → x ≡ y
value_from_ok None x y h = cc
value_from_ok (Some f) x y h = grind arith
