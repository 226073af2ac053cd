use Rattle.std.proofs.Common.{refl, arith}
use Rattle.commands.proofs.Placing.{short_texts, wrote}
use Rattle.commands.proofs.writer.write.Goals as goal

pub returns-in_err-ok : goal.returns-in_err-ok
returns-in_err-ok c =
    rw (c.from_residual.ensures) (refl, λ v. grind (arith, short_texts c.args.command v))

pub returns : goal.returns
returns c =
    let valid = c.if-not-is_valid.ensures in
    wrote c.args.command 25 _ _ _ _ (grind (arith, short_texts c.args.command valid)) valid (grind arith) c.copy_out.ensures.copied
