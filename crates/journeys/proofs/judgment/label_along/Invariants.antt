use Rattle.std.proofs.Common.{◌≡◌, drop}
use Rattle.journeys.specs.Formulas.{along}
use Rattle.journeys.proofs.judgment.label_along.Given as goal

-- what is left takes the label to the answer
abbrev pub invariant-loop-step : goal.invariant-loop-step
invariant-loop-step g l =
    along g.M.Measure.ops l.events l.label (drop l.step-index l.steps) ≡ along g.M.Measure.ops l.events l.initial.label l.steps
