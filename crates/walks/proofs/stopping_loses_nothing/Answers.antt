use Rattle.walks.proofs.Optimal.{stopping_loses_nothing}
use Rattle.walks.proofs.stopping_loses_nothing.Goals as goal

pub returns : goal.returns
returns c = stopping_loses_nothing
