use Rattle.std.proofs.Common.{arith}
use Rattle.search.proofs.Tracings.{writing_all, writing_more, writing_place, writing_start}
use Rattle.search.proofs.trace.write_steps.Goals as goal

pub loop-next-init : goal.loop-next-init
loop-next-init g c = writing_start c.args.log.now c.args.last c.args.steps.now c.requires

pub overflow_sub-place : goal.overflow_sub-place
overflow_sub-place g c = writing_place c.loop-next.invariant c.in-Some.is

pub loop-next-smaller : goal.loop-next-smaller
loop-next-smaller g c = omega (arith, writing_place c.loop-next.invariant c.in-Some.is)

pub loop-next-preserved : goal.loop-next-preserved
loop-next-preserved g c =
    writing_more c.args.log.now c.loop-next.invariant c.in-Some.stage c.stage_before-next.result _ c.in-Some.is
    c.stage_before-next.ensures c.from.ensures

pub returns : goal.returns
returns g c = writing_all c.args.log.now c.loop-next.invariant c.in_default.is
