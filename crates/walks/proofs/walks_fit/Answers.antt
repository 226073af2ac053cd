use Rattle.walks.proofs.Fitting.{walks_fit}
use Rattle.walks.proofs.walks_fit.Goals as goal

pub returns : goal.returns
returns g c = walks_fit g.M.Measure.ops
