use Rattle.std.proofs.Common.{arith}
use Rattle.commands.proofs.Steps.{further_digit, no_further_digit}
use Rattle.commands.proofs.reader.further_digit.Goals as goal

pub returns-then-not-may_go_on : goal.returns-then-not-may_go_on
returns-then-not-may_go_on c = no_further_digit c.args.field c.args.value c.args.byte c.requires.bounded c.requires.digit (λ p. grind arith)

pub returns : goal.returns
returns c =
    rw c.from.ensures
    (further_digit c.args.field c.args.value c.args.byte c.requires.bounded c.requires.digit (grind arith) (grind arith))
