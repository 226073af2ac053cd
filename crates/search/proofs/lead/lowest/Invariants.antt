use Rattle.search.specs.Readings.{Leads}
use Rattle.search.proofs.lead.lowest.Given as goal

abbrev pub invariant-loop-event : goal.invariant-loop-event
invariant-loop-event g l = Leads g.M.Measure.ops l.query l.log l.event l.leader
