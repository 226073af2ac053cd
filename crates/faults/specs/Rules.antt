-- Tests in a fixed order, of which the first that fails decides. Assumes nothing.
--     Rule             a test, with the fault that is met where it is false
--     first_fault rs   the fault of the first rule whose test is false, none where all are true
--     IsKept rs        every test is true
--     ruling rs x      x where every test is true, else the first broken rule's fault
--     ruling_by o x    x where o has no fault, else that fault
use Rattle.std.specs.Prelude.{◌≡◌, Bool, List, [], ◌∷◌, Some, None, Ok, Err, Option, Result, if◌then◌else◌}
use Rattle.faults.specs.declared.Fault.{Fault}

abbrev pub Rule : Type 0
Rule = Bool × Fault

abbrev pub first_fault : List Rule → Option Fault
first_fault [] = None
first_fault (r ∷ rs) = if r.0 then first_fault rs else Some r.1

abbrev pub IsKept : List Rule → Type 0
IsKept rs = first_fault rs ≡ None

abbrev pub ruling_by : {T : Type 0} → Option Fault → T → Result T Fault
ruling_by None x = Ok x
ruling_by (Some f) x = Err f

abbrev pub ruling : {T : Type 0} → List Rule → T → Result T Fault
ruling rs x = ruling_by (first_fault rs) x
