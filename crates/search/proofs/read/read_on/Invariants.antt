use Rattle.std.proofs.Common.{◌-◌, length}
use Rattle.journeys.specs.Marks.{is_in_force}
use Rattle.scans.specs.Tables.{SameWork, contents}
use Rattle.search.proofs.Readings.{StandingAt}
use Rattle.search.proofs.read.read_on.Given as goal

abbrev pub invariant-loop-event : goal.invariant-loop-event
invariant-loop-event g l =
    record {
      stands :
          StandingAt g.M.Measure.ops (g.S.Source.events l.initial.source) (is_in_force l.marks) l.query
          (g.S.Source.events l.source) (g.S.Source.place l.source) l.number (contents l.work);
      same : SameWork l.initial.work l.work;
    }

abbrev pub decreases-loop-event : goal.decreases-loop-event
decreases-loop-event g l = length (g.S.Source.events l.source) - g.S.Source.place l.source
