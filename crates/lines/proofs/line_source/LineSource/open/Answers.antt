use Rattle.std.proofs.Common.{◌≡◌, sym, refl, ap, ◌∙◌, subst}
use Rattle.faults.proofs.Rules.{kept_from_ok, value_from_ok}
use Rattle.lines.specs.Departures.{IsTimetableOf, events_on}
use Rattle.lines.specs.Lines.{lines_of, table}
use Rattle.lines.proofs.Orders.{only_one, timetable}
use Rattle.lines.proofs.Timetables.{events_on-table}
use Rattle.lines.proofs.line_source.LineSource.open.Goals as goal

pub returns-in_err-table-clause-only : goal.returns-in_err-table-clause-only
returns-in_err-table-clause-only c = only_one

pub returns-clause-opened : goal.returns-clause-opened
returns-clause-opened c =
    let ls = lines_of c.args.bytes.now in
    let k = kept_from_ok _ _ _ (sym c.in_ok-table.ensures) in
    let v : table ls ≡ c.in_ok-table.table.lines = value_from_ok _ _ _ (sym c.in_ok-table.ensures) in
    record { kept = k; rides = subst (IsTimetableOf ls) (sym (events_on-table ls) ∙ ap events_on v) (timetable ls); start = refl }

pub returns-clause-only : goal.returns-clause-only
returns-clause-only c = only_one
