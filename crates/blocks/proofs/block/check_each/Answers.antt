use Rattle.std.proofs.Common.{Some, sym, ap, ◌∙◌, arith}
use Rattle.faults.specs.Rules.{first_fault}
use Rattle.faults.proofs.Rules.{broken_from_err, kept_from_ok, value_from_ok}
use Rattle.records.specs.Layout.{event_in}
use Rattle.blocks.specs.Blocks.{rules_after}
use Rattle.blocks.proofs.Lists.{behind_by_place}
use Rattle.blocks.proofs.Scans.{exit_broken, turn_broken, turn_kept}
use Rattle.blocks.proofs.block.check_each.Goals as goal

pub loop-place-init : goal.loop-place-init
loop-place-init c = ap first_fault (behind_by_place c.args.rows.now)

pub returns-in_err-read_after : goal.returns-in_err-read_after
returns-in_err-read_after c =
    let b = broken_from_err _ _ _ (sym c.read_after.ensures ∙ c.in_err-read_after.was) in
    exit_broken _ _ _ _ c.from_residual.ensures.1
    (sym c.loop-place.invariant ∙ turn_broken rules_after (λ o r. Some (event_in r)) c.args.rows.now c.loop-place.last c.loop-place.place (omega arith) _ b)

pub loop-place-preserved : goal.loop-place-preserved
loop-place-preserved c =
    let k = kept_from_ok _ _ _ (sym c.read_after.ensures ∙ c.in_ok-read_after.was) in
    let v = value_from_ok _ _ _ (sym c.read_after.ensures ∙ c.in_ok-read_after.was) in
    rw (← v)
    (turn_kept rules_after (λ o r. Some (event_in r)) c.args.rows.now c.loop-place.last c.loop-place.place (omega arith) k ∙ c.loop-place.invariant)
