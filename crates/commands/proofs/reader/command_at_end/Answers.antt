use Rattle.std.proofs.Common.{None, arith}
use Rattle.commands.proofs.Ends.{finished_at}
use Rattle.commands.proofs.reader.command_at_end.Goals as goal

pub returns-in_default : goal.returns-in_default
returns-in_default c = finished_at c.args.state None c.requires (grind arith)

pub returns-in_default-2 : goal.returns-in_default-2
returns-in_default-2 c = finished_at c.args.state None c.requires (grind arith)
