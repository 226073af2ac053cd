use Rattle.journeys.proofs.Scores.{measures_plain}
use Rattle.journeys.proofs.facts.measures_are_plain.Goals as goal

pub returns : goal.returns
returns c = measures_plain
