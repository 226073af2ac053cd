-- How each fault is told. Assumes nothing.
--     report n l p     number n, layer l, place p
--     report_of f      what a fault is told as, case by case
--     report_text r    the text of a report: `no`, and the three numbers in decimal with a space before each
-- The layers are 1 block, 2 record, 3 list, 4 command, 5 post, 6 query.
use Rattle.std.specs.Prelude.{ℕ, List, ◌++◌, codes, decimal}
use Rattle.faults.specs.declared.Fault.{Fault}
use Rattle.faults.specs.declared.Fault.TheVariants.{PartialRecord, TooManyRecords, WrongKind, SpareByteSet, EqualStops, DurationOutOfRange, NoRepetition, TimeOutOfRange, OutOfOrder, TooManyRides, NotACommand, UnknownEvent, NoticeWithoutEffect, EqualQueryStops, BadWindow, WorkTableTooShort, StepTableTooShort, NoJourney}
use Rattle.faults.specs.declared.Report.{Report}

abbrev pub report : ℕ → ℕ → ℕ → Report
report n l p = record { number = n; layer = l; place = p }

abbrev pub report_of : Fault → Report
report_of (PartialRecord p) = report 1 1 p
report_of (TooManyRecords p) = report 2 1 p
report_of (WrongKind p) = report 3 2 p
report_of (SpareByteSet p) = report 4 2 p
report_of (EqualStops p) = report 5 2 p
report_of (DurationOutOfRange p) = report 6 2 p
report_of (NoRepetition p) = report 7 2 p
report_of (TimeOutOfRange p) = report 8 2 p
report_of (OutOfOrder p) = report 9 3 p
report_of (TooManyRides p) = report 10 3 p
report_of (NotACommand p) = report 11 4 p
report_of (UnknownEvent p) = report 12 5 p
report_of (NoticeWithoutEffect p) = report 13 5 p
report_of EqualQueryStops = report 14 6 0
report_of BadWindow = report 15 6 0
report_of WorkTableTooShort = report 16 6 0
report_of StepTableTooShort = report 17 6 0
report_of NoJourney = report 18 6 0

abbrev pub report_text : Report → List ℕ
report_text r = codes "no " ++ (decimal r.number ++ (codes " " ++ (decimal r.layer ++ (codes " " ++ decimal r.place))))
