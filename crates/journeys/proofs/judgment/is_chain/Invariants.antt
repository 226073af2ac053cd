use Rattle.std.proofs.Common.{length}
use Rattle.journeys.specs.Marks.{is_in_force}
use Rattle.journeys.specs.Verdicts.{IsChain}
use Rattle.journeys.proofs.judgment.is_chain.Given as goal

-- what is left of the numbers decides
abbrev pub invariant-loop-left : goal.invariant-loop-left
invariant-loop-left l =
    (IsChain l.events (is_in_force l.marks) l.left → IsChain l.events (is_in_force l.marks) l.steps)
    × (IsChain l.events (is_in_force l.marks) l.steps → IsChain l.events (is_in_force l.marks) l.left)

abbrev pub decreases-loop-left : goal.decreases-loop-left
decreases-loop-left l = length l.left
