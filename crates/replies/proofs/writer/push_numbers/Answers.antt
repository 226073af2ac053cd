use Rattle.std.proofs.Common.{length, take, ap, arith}
use Rattle.std.proofs.lemmas.List.{length-append}
use Rattle.std.proofs.lemmas.Result.{err_from_is_err_and}
use Rattle.replies.specs.Printed.{numbers}
use Rattle.replies.proofs.Fits.{numbers_fit}
use Rattle.replies.proofs.writer.push_numbers.Goals as goal

pub returns-in_err-push_spaced : goal.returns-in_err-push_spaced
returns-in_err-push_spaced c =
    let ns = c.args.values.now in
    let k = c.loop-value.value-index in
    let p = err_from_is_err_and c.from_residual.result c.from_residual.ensures.1 in
    rw (p.1) (omega (
      arith,
      c.in_err-push_spaced.ensures.pushed,
      ap length c.loop-value.invariant,
      length-append c.args.line.now.bytes (numbers (take k ns)),
      numbers_fit ns k c.loop-value-test.true,
    ))
