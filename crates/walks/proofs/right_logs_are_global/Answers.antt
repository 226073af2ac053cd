use Rattle.walks.proofs.Global.{log_is_global}
use Rattle.walks.proofs.right_logs_are_global.Goals as goal

pub returns : goal.returns
returns g c = log_is_global g.M.Measure.ops g.met.M.Measure.laws
