-- The sixteen bytes of a line record, and a block of lines. Assumes nothing.
--     line_in bs       the line that the fields of a record give
--     spare_clear bs   the bytes that a line record does not use are 0
--     last_arrival l   the arrival of a line's last ride
--     line_limits p l  the rules that a line obeys, at place p: those of its first ride's stops and duration, there is
--                      an interval and a ride, and the last arrival is one of a timetable's minutes
--     form_rules p bs  the rules of a line record's form, at place p: its kind is a line's, its spare bytes are 0
--     line_rules p bs  the rules that a line record obeys by itself, at place p: those of its form, and the limits of
--                      its line
--     few_rides p n    the rule that n rides are at most most_events, at place p
--     rides_of ls      how many rides the lines ls have together
--     rules_at rs i    the rules of record i of the records rs: those of a line record by itself, then that the
--                      lines up to this one have at most most_events rides
--     each_rules rs    those of each record of rs in turn
--     block_rules bs   the rules that a block of lines obeys, in the order in which they are tested: those of its
--                      size, with at most most_lines records, then those of its records
--     lines_of bs      the lines of a block, in their order
--     no_line          what stands in the part of a table that holds no line
--     table ls         a table of most_lines lines that begins with ls
use Rattle.std.specs.Prelude.{ℕ, ◌+◌, ◌-◌, ◌*◌, Bool, ◌&&◌, List, [], ◌∷◌, ◌++◌, map, length, take, replicate, sum_by, ◌==◌, nat_le, slice_index}
use Rattle.std.specs.List.{flat_map, range_with_len}
use Rattle.faults.specs.declared.Fault.TheVariants.{WrongKind, SpareByteSet, NoRepetition, TooManyRides}
use Rattle.faults.specs.Rules.{Rule}
use Rattle.records.specs.Events.{arrival_of, ride_rules, time_rule}
use Rattle.records.specs.Layout.{half, ride_in}
use Rattle.records.specs.Limits.{most_events, most_lines}
use Rattle.blocks.specs.Rows.{record_at, records_of, size_rules}
use Rattle.lines.specs.declared.line.Line.{Line}

abbrev pub line_in : List ℕ → Line
line_in bs =
    record { first = ride_in bs; interval = half bs 10; rides = half bs 12 }

abbrev pub spare_clear : List ℕ → Bool
spare_clear bs = slice_index bs 3 == 0 && (slice_index bs 14 == 0 && slice_index bs 15 == 0)

abbrev pub last_arrival : Line → ℕ
last_arrival l = arrival_of l.first + (l.rides - 1) * l.interval

abbrev pub line_limits : ℕ → Line → List Rule
line_limits p l =
    ride_rules p l.first
    ++ (nat_le 1 l.interval && nat_le 1 l.rides, NoRepetition p)
    ∷ time_rule p (last_arrival l)
    ∷ []

abbrev pub form_rules : ℕ → List ℕ → List Rule
form_rules p bs = ((slice_index bs 0 == 3), WrongKind p) ∷ (spare_clear bs, SpareByteSet p) ∷ []

abbrev pub line_rules : ℕ → List ℕ → List Rule
line_rules p bs = form_rules p bs ++ line_limits p (line_in bs)

abbrev pub few_rides : ℕ → ℕ → List Rule
few_rides p n = (nat_le n most_events, TooManyRides p) ∷ []

abbrev pub rides_of : List Line → ℕ
rides_of ls = sum_by (λ l. l.rides) ls

abbrev pub rules_at : List (List ℕ) → ℕ → List Rule
rules_at rs i = line_rules i (record_at rs i) ++ few_rides i (rides_of (map line_in (take (i + 1) rs)))

abbrev pub each_rules : List (List ℕ) → List Rule
each_rules rs = flat_map (rules_at rs) (range_with_len 0 (length rs))

abbrev pub block_rules : List ℕ → List Rule
block_rules bs = size_rules most_lines bs ++ each_rules (records_of bs)

abbrev pub lines_of : List ℕ → List Line
lines_of bs = map line_in (records_of bs)

abbrev pub no_line : Line
no_line = record { first = record { from = 0; to = 0; departure = 0; duration = 0 }; interval = 0; rides = 0 }

abbrev pub table : List Line → List Line
table ls = ls ++ replicate (most_lines - length ls) no_line
