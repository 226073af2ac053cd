-- What calls across C answer, in one number. Assumes nothing.
--     length_code r        a length by itself, none as -1
--     load_code r          a count by itself; a fault as its number times 2 ^ 40, plus its layer times 2 ^ 32, plus its place,
--                          which counts as 2 ^ 32 - 1 where it is above that, as no place in a load is
--     AnswersByCode day lines m n m'  lines are answered over a day, and n tells the answer
--     LoadsByCode m bs n m'  records are loaded, and n tells the answer
use Rattle.std.specs.Prelude.{◌≡◌, ℕ, ◌+◌, ◌-◌, ◌*◌, ◌^◌, min, List, ℤ, pos, negsuc, Some, None, Ok, Err, Option, Result}
use Rattle.faults.specs.declared.Fault.{Fault}
use Rattle.faults.specs.Numbered.{report_of}
use Rattle.byte_calls.specs.Conversations.{Answers}
use Rattle.byte_calls.specs.Loadings.{Loads}

abbrev pub length_code : Option ℕ → ℤ
length_code (Some n) = pos n
length_code None = negsuc 0

abbrev pub load_code : Result ℕ Fault → ℕ
load_code (Ok n) = n
load_code (Err f) = (report_of f).number * 2 ^ 40 + (report_of f).layer * 2 ^ 32 + min (report_of f).place (2 ^ 32 - 1)

pub record AnswersByCode (day lines m : List ℕ) (n : ℤ) (m' : List ℕ) : Type 0 where
  pub answer : Option ℕ
  pub answers : Answers day lines m answer m'
  pub code : n ≡ length_code answer

pub record LoadsByCode (m bs : List ℕ) (n : ℕ) (m' : List ℕ) : Type 0 where
  pub answer : Result ℕ Fault
  pub loads : Loads m bs answer m'
  pub code : n ≡ load_code answer
