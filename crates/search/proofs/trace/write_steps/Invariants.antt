use Rattle.scans.specs.Views.{view}
use Rattle.search.proofs.Tracings.{Writing}
use Rattle.search.proofs.trace.write_steps.Given as goal

abbrev pub invariant-loop-next : goal.invariant-loop-next
invariant-loop-next g l = Writing (view l.log) l.initial.next l.next l.steps l.place

abbrev pub decreases-loop-next : goal.decreases-loop-next
decreases-loop-next g l = l.place
