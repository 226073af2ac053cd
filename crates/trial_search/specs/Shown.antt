-- A best score in words. Assumes nothing.
--     score_text o     its two numbers in decimal, with a semicolon between them, or 'none'
use Rattle.std.specs.Prelude.{List, ◌++◌, ℕ, Some, None, Option, codes}
use Rattle.std.specs.Fmt.{signed_decimal}
use Rattle.measures.specs.Measures.{Score}

abbrev pub score_text : Option Score → List ℕ
score_text (Some s) = signed_decimal s.0 ++ (codes ";" ++ signed_decimal s.1)
score_text None = codes "none"
