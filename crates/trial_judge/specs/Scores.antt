-- What is printed of a journey beside its verdict. Assumes nothing.
--     others           the criteria beside the earliest arrival, in the order of their scores
--     other_scores es js   the scores of the journey js under these
use Rattle.std.specs.Prelude.{ℕ, List, [], ◌∷◌, map}
use Rattle.records.specs.declared.event.Event.{Event}
use Rattle.measures.specs.declared.criterion.Criterion.{Criterion}
use Rattle.measures.specs.declared.criterion.Criterion.TheVariants.{Fastest, FewestRides, LatestDeparture, LeastRiding, LeastWaiting}
use Rattle.measures.specs.Criteria.{ops}
use Rattle.measures.specs.Measures.{Score}
use Rattle.journeys.specs.Formulas.{score_of}

abbrev pub others : List Criterion
others = LatestDeparture ∷ Fastest ∷ LeastRiding ∷ FewestRides ∷ LeastWaiting ∷ []

abbrev pub other_scores : List Event → List ℕ → List Score
other_scores es js = map (λ k. score_of (ops k) es js) others
