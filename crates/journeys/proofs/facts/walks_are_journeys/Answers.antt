use Rattle.journeys.proofs.Temporal.{walks_are_journeys}
use Rattle.journeys.proofs.facts.walks_are_journeys.Goals as goal

pub returns : goal.returns
returns c = walks_are_journeys
