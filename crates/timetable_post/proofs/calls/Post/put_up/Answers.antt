use Rattle.std.proofs.Common.{[], sym, ap, subst}
use Rattle.timetable_post.specs.Histories.{Explains}
use Rattle.timetable_post.specs.Posts.{post_state}
use Rattle.timetable_post.proofs.Histories.{explains_new}
use Rattle.timetable_post.proofs.calls.Post.put_up.Goals as goal

pub returns-clause-new : goal.returns-clause-new
returns-clause-new g c =
    ap (post_state (g.S.Source.events c.args.source) (g.S.Source.place c.args.source)) c.new_marks.ensures

pub returns-clause-history : goal.returns-clause-history
returns-clause-history g c =
    let es = g.S.Source.events c.args.source in
    let p = g.S.Source.place c.args.source in
    subst (Explains []) (sym (returns-clause-new g c)) (explains_new es p)
