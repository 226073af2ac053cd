use Rattle.std.proofs.Common.{rules}
use Rattle.dialogue.proofs.interpreter.find.Goals as goal

pub returns-in-EarliestArrival-clause-obeys : goal.returns-in-EarliestArrival-clause-obeys
returns-in-EarliestArrival-clause-obeys g c = rw c.in-EarliestArrival.is (search (rules, c.measures_are_plain.ensures))

pub returns-in-LatestDeparture-clause-obeys : goal.returns-in-LatestDeparture-clause-obeys
returns-in-LatestDeparture-clause-obeys g c = rw c.in-LatestDeparture.is (search (rules, c.measures_are_plain.ensures))

pub returns-in-Fastest-clause-obeys : goal.returns-in-Fastest-clause-obeys
returns-in-Fastest-clause-obeys g c = rw c.in-Fastest.is (search (rules, c.measures_are_plain.ensures))

pub returns-in-LeastRiding-clause-obeys : goal.returns-in-LeastRiding-clause-obeys
returns-in-LeastRiding-clause-obeys g c = rw c.in-LeastRiding.is (search (rules, c.measures_are_plain.ensures))

pub returns-in-FewestRides-clause-obeys : goal.returns-in-FewestRides-clause-obeys
returns-in-FewestRides-clause-obeys g c = rw c.in-FewestRides.is (search (rules, c.measures_are_plain.ensures))

pub returns-in-LeastWaiting-clause-obeys : goal.returns-in-LeastWaiting-clause-obeys
returns-in-LeastWaiting-clause-obeys g c = rw c.in-LeastWaiting.is (search (rules, c.measures_are_plain.ensures))
