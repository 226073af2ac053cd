-- The words for what is wrong with a line. Assumes nothing.
--     error_text r     its text, case by case
use Rattle.std.specs.Prelude.{ℕ, List, codes}
use Rattle.scripts.specs.declared.line.LineError.{LineError}
use Rattle.scripts.specs.declared.line.LineError.TheVariants.{UnknownLetter, MissingNumber, NotANumber}

abbrev pub error_text : LineError → List ℕ
error_text UnknownLetter = codes "a line begins with no known letter"
error_text MissingNumber = codes "a number is missing"
error_text NotANumber = codes "a word is not a number, or too large a one"
