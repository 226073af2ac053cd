use Rattle.walks.proofs.Fitting.{exchange}
use Rattle.walks.proofs.walks_exchange.Goals as goal

pub returns : goal.returns
returns g c = exchange g.M.Measure.ops g.met.M.Measure.laws
