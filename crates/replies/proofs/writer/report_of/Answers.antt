use Rattle.std.proofs.Common.{◌≤◌, length, subst, arith}
use Rattle.faults.specs.Numbered.{report_text}
use Rattle.replies.proofs.Fits.{told_short}
use Rattle.replies.proofs.writer.report_of.Goals as goal

pub returns-clause-short : goal.returns-clause-short
returns-clause-short c =
    let report = c.from-number.result in
    let kinds = c.from-number.type_inv in
    subst (λ r. length (report_text r) ≤ 31) c.from-number.ensures (told_short report (omega arith) (omega arith) (omega arith))
