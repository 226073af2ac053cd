use Rattle.std.proofs.Common.{length, Some, None, sym, ap, arith, length-append}
use Rattle.search.proofs.Tracings.{before_earlier, traced_back}
use Rattle.search.proofs.trace.count_steps.Goals as goal

pub loop-before-preserved : goal.loop-before-preserved
loop-before-preserved g c =
    record {
      few =
          omega (
            arith,
            before_earlier c.args.log.now c.loop-before.stage c.in-Some.before c.requires.backward (sym c.in-Some.ensures),
            c.loop-before.invariant.few,
          );
      left =
          λ js t.
          let here = c.loop-before.invariant.left js t in
          let back = traced_back c.args.log.now c.loop-before.stage.event c.loop-before.stage.called (Some c.in-Some.before) here.0 c.in-Some.ensures here.1 in
          (back.0, back.1, omega (arith, here.2, simp length-append at (ap length back.2)));
    }

pub returns-clause-count : goal.returns-clause-count
returns-clause-count g c js t =
    let here = c.loop-before.invariant.left js t in
    let back = traced_back c.args.log.now c.loop-before.stage.event c.loop-before.stage.called None here.0 c.in_default.ensures here.1 in
    omega (arith, here.2, simp length-append at (ap length back.2), ap length back.1)
