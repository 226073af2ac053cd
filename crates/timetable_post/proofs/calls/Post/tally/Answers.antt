use Rattle.std.proofs.Common.{refl, subst}
use Rattle.timetable_post.specs.Calls.{tally_call}
use Rattle.timetable_post.specs.Posts.{Performs}
use Rattle.timetable_post.proofs.Histories.{continues}
use Rattle.timetable_post.proofs.calls.Post.tally.Goals as goal

pub returns-clause-performs : goal.returns-clause-performs
returns-clause-performs g c =
    let post = c.self.inside in
    let call = tally_call c.count_set.result in
    subst (λ b. Performs b call b) c.self.view_is (record {
      post =
          record {
            listed = g.S.Source.listed post.source;
            within = g.S.Source.within post.source;
            long = c.self.invariant;
          };
      right = c.count_set.ensures;
      after = refl;
    })

pub returns-clause-history : goal.returns-clause-history
returns-clause-history g c = continues _ _ _ (returns-clause-performs g c)
