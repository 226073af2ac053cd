use Rattle.std.proofs.Common.{rules}
use Rattle.measures.specs.declared.criterion.Criterion.TheVariants.{EarliestArrival, Fastest, FewestRides, LatestDeparture, LeastRiding, LeastWaiting}
use Rattle.walks.proofs.measures_give_the_best.Goals as goal

pub returns : goal.returns
returns c EarliestArrival = search rules
returns c LatestDeparture = search rules
returns c Fastest = search rules
returns c LeastRiding = search rules
returns c FewestRides = search rules
returns c LeastWaiting = search rules
