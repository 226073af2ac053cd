use Rattle.std.proofs.Common.{refl, ◌∙◌, arith}
use Rattle.dialogue.specs.Obeying.{session}
use Rattle.byte_calls.proofs.Underway.{rest_shorter, underway_begun, underway_ends, underway_on}
use Rattle.byte_calls.proofs.conversation.converse.Goals as goal

pub loop-line-init : goal.loop-line-init
loop-line-init g c =
    let post = c.args.post.now in
    record {
      underway =
          underway_begun (session c.args.post.now c.args.tables.now) c.args.lines.now c.args.text.now;
      within = omega arith;
      long = refl;
    }

pub answer_behind-so_far-requires : goal.answer_behind-so_far-requires
answer_behind-so_far-requires g c = c.loop-line.invariant.within

pub loop-line-smaller : goal.loop-line-smaller
loop-line-smaller g c = rest_shorter _ _ _ c.in-Some.ensures

pub loop-line-preserved : goal.loop-line-preserved
loop-line-preserved g c =
    record {
      underway =
          underway_on _ _ _ _ _ _ _ _ _ _ _ c.in-Some.ensures c.answer_behind-so_far.ensures.answering
          c.loop-line.invariant.underway;
      within = c.answer_behind-so_far.ensures.within;
      long = c.answer_behind-so_far.ensures.long ∙ c.loop-line.invariant.long;
    }

pub returns-clause-converses : goal.returns-clause-converses
returns-clause-converses g c =
    underway_ends _ _ _ _ _ _ c.in_default.ensures c.loop-line.invariant.underway

pub returns-clause-within : goal.returns-clause-within
returns-clause-within g c = c.loop-line.invariant.within
