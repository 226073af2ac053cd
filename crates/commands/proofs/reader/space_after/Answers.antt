use Rattle.std.proofs.Common.{⊎_elim}
use Rattle.commands.proofs.Steps.{space_at}
use Rattle.commands.proofs.reader.space_after.Goals as goal

pub returns-in-Withdrawn : goal.returns-in-Withdrawn
returns-in-Withdrawn c =
    ⊎_elim (λ h. space_at c.args.value h c.requires) (λ h. space_at c.args.value h c.requires) c.in-Withdrawn.is
