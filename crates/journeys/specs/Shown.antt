-- A verdict in words. Assumes nothing.
--     verdict_text v   the text of the verdict v, with its numbers in decimal, and the score in brackets
use Rattle.std.specs.Prelude.{ℕ, List, ◌++◌, codes, decimal}
use Rattle.std.specs.Fmt.{signed_decimal}
use Rattle.journeys.specs.declared.judgment.Verdict.{Verdict}

abbrev pub verdict_text : Verdict → List ℕ
verdict_text v =
    codes "from "
    ++ (decimal v.begin
    ++ (codes " to "
    ++ (decimal v.end
    ++ (codes ", riding "
    ++ (decimal v.riding
    ++ (codes ", rides "
    ++ (decimal v.rides
    ++ (codes ", score (" ++ (signed_decimal v.score.0 ++ (codes "; " ++ (signed_decimal v.score.1 ++ codes ")")))))))))))
