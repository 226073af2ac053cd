use Rattle.std.proofs.Common.{◌+◌, Some, sym, subst, arith}
use Rattle.std.proofs.lemmas.List.{length-map}
use Rattle.sources.specs.Sources.{Reading}
use Rattle.lines.specs.Departures.{departures, events_on, ride_on, runs}
use Rattle.lines.specs.Merges.{departures_left}
use Rattle.lines.proofs.Orders.{drawn_rest, more_behind, sorted_rising}
use Rattle.lines.proofs.Timetables.{reads_none, reads_one}
use Rattle.lines.proofs.line_source.LineSourceSource.next.Goals as goal

pub returns-in_err-departure : goal.returns-in_err-departure
returns-in_err-departure c =
    let s = c.args.self.now in
    let ls = s.table.lines in
    let d = c.in_err-departure.ensures in
    subst (λ o. Reading (events_on ls) s.place o (events_on ls) s.place) (sym c.from_residual.ensures)
    (reads_none ls s.place (departures_left s.merge.cursors.table) (departures_left c.next_departure.new.self.cursors.table) s.left s.reached d.0)

pub invariant_of-self-2 : goal.invariant_of-self-2
invariant_of-self-2 c =
    let s = c.args.self.now in
    let ls = s.table.lines in
    let left = departures_left s.merge.cursors.table in
    let left' = departures_left c.next_departure.new.self.cursors.table in
    let x = c.in_ok-departure.departure in
    let d = c.in_ok-departure.ensures in
    let h = more_behind (departures ls) left left' s.place (sorted_rising (runs ls)) s.left x d in
    record {
      reached = omega (arith, h, length-map (departures ls) (ride_on ls));
      left = drawn_rest (departures ls) left left' s.place (sorted_rising (runs ls)) s.left x d;
    }

pub returns : goal.returns
returns c =
    let s = c.args.self.now in
    let ls = s.table.lines in
    subst (λ e. Reading (events_on ls) s.place (Some e) (events_on ls) (s.place + 1)) (sym c.ride_on.ensures)
    (reads_one ls s.place (departures_left s.merge.cursors.table) (departures_left c.next_departure.new.self.cursors.table) s.left
    c.in_ok-departure.departure c.in_ok-departure.ensures)
