use Rattle.std.proofs.Common.{subst, arith}
use Rattle.commands.specs.Machine.{IsBounded}
use Rattle.commands.proofs.Steps.{first_digit, stuck}
use Rattle.commands.proofs.reader.after_byte.Goals as goal

pub returns-in-Before-0-to-9 : goal.returns-in-Before-0-to-9
returns-in-Before-0-to-9 c =
    rw (c.in-Before-0-to-9.is-0, c.from-in-Before-0-to-9.ensures)
    (first_digit c.in-Before-0-to-9.field c.args.byte (subst IsBounded c.in-Before-0-to-9.is-0 c.requires) (omega arith, omega arith))

pub returns-in_default-5 : goal.returns-in_default-5
returns-in_default-5 c = stuck c.args.state c.args.byte c.requires (grind arith)

pub returns-in_default-6 : goal.returns-in_default-6
returns-in_default-6 c = stuck c.args.state c.args.byte c.requires (grind arith)

pub returns-in_default-7 : goal.returns-in_default-7
returns-in_default-7 c = stuck c.args.state c.args.byte c.requires (grind arith)

pub returns-in_default-8 : goal.returns-in_default-8
returns-in_default-8 c = stuck c.args.state c.args.byte c.requires (grind arith)

pub returns-in_default-9 : goal.returns-in_default-9
returns-in_default-9 c = stuck c.args.state c.args.byte c.requires (grind arith)

pub returns-in_default-10 : goal.returns-in_default-10
returns-in_default-10 c = stuck c.args.state c.args.byte c.requires (grind arith)
