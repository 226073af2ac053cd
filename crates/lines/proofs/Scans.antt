-- Line records, tested and put into a table one after another.
use Rattle.std.proofs.Common.{◌≡◌, ℕ, suc, ◌+◌, ◌-◌, ◌<◌, List, [], ◌∷◌, ◌++◌, map, length, take, set, replicate, ap, ◌∙◌, append_assoc, arith}
use Rattle.std.proofs.lemmas.List.{length-append, map_more, set_at}
use Rattle.std.proofs.lemmas.List.Sums.{sum_by_push}
use Rattle.faults.specs.Rules.{Rule}
use Rattle.records.specs.Limits.{most_lines}
use Rattle.blocks.specs.Rows.{record_at}
use Rattle.blocks.proofs.Scans.{in_turn_by_place, rules_in_turn}
use Rattle.lines.specs.declared.line.Line.{Line}
use Rattle.lines.specs.Lines.{each_rules, few_rides, line_in, line_rules, no_line, rides_of, rules_at, table}

-- the rules of a record at place p behind lines with n rides, and of the records rs from place p on
abbrev pub rules_after : ℕ → ℕ → List ℕ → List Rule
rules_after n p r = line_rules p r ++ few_rides p (n + (line_in r).rides)

abbrev pub rules_behind : ℕ → ℕ → List (List ℕ) → List Rule
rules_behind n p rs = rules_in_turn rules_after (λ m r. m + (line_in r).rides) n p rs

pub rides_more : (rs : List (List ℕ)) (i : ℕ) → i < length rs
    → rides_of (map line_in (take (i + 1) rs)) ≡ rides_of (map line_in (take i rs)) + (line_in (record_at rs i)).rides
rides_more rs i h =
    ap rides_of (map_more line_in rs i [] h) ∙ sum_by_push (λ l. l.rides) (map line_in (take i rs)) (line_in (record_at rs i))

pub behind_by_place : (rs : List (List ℕ)) → rules_behind 0 0 rs ≡ each_rules rs
behind_by_place rs =
    in_turn_by_place rules_after (λ m r. m + (line_in r).rides) rs (λ i. rides_of (map line_in (take i rs))) (rules_at rs)
    (λ i h. (rides_more rs i h, ap (λ n. line_rules i (record_at rs i) ++ few_rides i n) (rides_more rs i h)))

-- a line more
pub table_push : (ls : List Line) (i : ℕ) (l : Line) → length ls ≡ i → i < most_lines → set (table ls) i l ≡ table (ls ++ l ∷ [])
table_push ls i l e h =
    let n : most_lines - length ls ≡ suc (most_lines - (i + 1)) = omega arith in
    let n' : most_lines - length (ls ++ l ∷ []) ≡ most_lines - (i + 1) = omega (arith, length-append ls (l ∷ [])) in
    rw (n, n', append_assoc) (set_at ls no_line (replicate (most_lines - (i + 1)) no_line) l i e)
