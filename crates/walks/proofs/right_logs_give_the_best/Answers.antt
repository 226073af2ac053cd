use Rattle.walks.proofs.Optimal.{log_gives_best}
use Rattle.walks.proofs.right_logs_give_the_best.Goals as goal

pub returns : goal.returns
returns g c = log_gives_best g.M.Measure.ops g.met.M.Measure.laws
