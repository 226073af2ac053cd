use Rattle.std.proofs.Common.{refl, ap, ◌∙◌, ◌*◌, arith}
use Rattle.std.proofs.lemmas.List.{length-take-le}
use Rattle.timetable_post.specs.Posts.{new_post}
use Rattle.byte_calls.proofs.conversation.converse_over.Goals as goal

pub returns-clause-converses : goal.returns-clause-converses
returns-clause-converses c =
    let said = c.converse.ensures.converses in (
      said.text,
      (
        _,
        _,
        record {
          post = c.put_up.ensures.new ∙ ap (new_post _) c.requires;
          history = c.put_up.ensures.history;
          log = length-take-le _ _ (omega (arith, c.args.source.listed.few, c.size-slots.ensures)) ∙ ap (λ n. n * 2) c.size-slots.ensures;
          board = refl;
          trip_log = length-take-le _ _ (omega (arith, c.args.source.listed.few, c.size-slots.ensures)) ∙ ap (λ n. n * 2) c.size-slots.ensures;
          trip_board = refl;
          queue = refl;
          steps = refl;
        },
        said.whole,
      ),
      said.printed,
    )
