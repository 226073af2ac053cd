use Rattle.std.proofs.Common.{◌-◌, length}
use Rattle.sources.proofs.Readings.{Midway}
use Rattle.sources.proofs.reading.read_through.Given as goal

abbrev pub invariant-loop-event : goal.invariant-loop-event
invariant-loop-event g l =
    Midway (g.S.Source.events l.initial.source) l.counts (g.S.Source.events l.source) (g.S.Source.place l.source)

abbrev pub decreases-loop-event : goal.decreases-loop-event
decreases-loop-event g l = length (g.S.Source.events l.source) - g.S.Source.place l.source
