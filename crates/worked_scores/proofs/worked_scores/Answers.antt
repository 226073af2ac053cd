use Rattle.std.proofs.Common.{true, false, [], ◌∷◌, pos, refl}
use Rattle.measures.specs.declared.criterion.Criterion.TheVariants.{EarliestArrival, Fastest, FewestRides, LatestDeparture, LeastRiding, LeastWaiting}
use Rattle.measures.specs.Criteria.{ops}
use Rattle.worked_scores.specs.Day.{all, asking, day}
use Rattle.worked_scores.proofs.Lister.{best_listed, none_listed, only_listed}
use Rattle.worked_scores.proofs.worked_scores.Goals as goal

pub returns : goal.returns
returns c =
    let q = asking 100 200 false in
    let v = asking 100 200 true in
    let near = asking 110 155 false in (
      best_listed day all q (ops EarliestArrival) (pos 155, pos 999889) (2 ∷ 4 ∷ []) refl refl refl,
      best_listed day all q (ops LatestDeparture) (pos 999889, pos 155) (2 ∷ 4 ∷ []) refl refl refl,
      best_listed day all q (ops Fastest) (pos 45, pos 45) (2 ∷ 4 ∷ []) refl refl refl,
      best_listed day all q (ops LeastRiding) (pos 25, pos 158) (2 ∷ 5 ∷ []) refl refl refl,
      best_listed day all q (ops FewestRides) (pos 1, pos 165) (1 ∷ []) refl refl refl,
      best_listed day all q (ops LeastWaiting) (pos 0, pos 155) (2 ∷ 4 ∷ []) refl refl refl,
      best_listed day all v (ops FewestRides) (pos 1, pos 170) (1 ∷ 6 ∷ []) refl refl refl,
      best_listed day all v (ops LeastRiding) (pos 25, pos 158) (2 ∷ 3 ∷ 5 ∷ []) refl refl refl,
      best_listed day all near (ops EarliestArrival) (pos 155, pos 999889) (2 ∷ 4 ∷ []) refl refl refl,
      only_listed day all near (2 ∷ 4 ∷ []) refl refl,
      none_listed day all (asking 111 155 false) refl,
      none_listed day all (asking 110 154 false) refl,
      refl,
      refl,
      refl,
    )
