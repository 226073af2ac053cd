use Rattle.std.proofs.Common.{sym, ◌∙◌}
use Rattle.faults.proofs.Rules.{broken_from_err, first_broken_broken}
use Rattle.records.specs.Layout.{record_rules}
use Rattle.blocks.proofs.Scans.{exit_broken}
use Rattle.blocks.proofs.block.read_after.Goals as goal

pub returns-in_err-event : goal.returns-in_err-event
returns-in_err-event c =
    let b = broken_from_err _ _ _ (sym c.read.ensures.value ∙ c.in_err-event.was) in
    exit_broken _ _ _ _ c.from_residual.ensures.1 (first_broken_broken (record_rules c.args.place c.args.row.now) _ _ b)
