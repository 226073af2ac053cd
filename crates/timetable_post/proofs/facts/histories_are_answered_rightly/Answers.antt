use Rattle.timetable_post.proofs.Histories.{histories_right}
use Rattle.timetable_post.proofs.facts.histories_are_answered_rightly.Goals as goal

pub returns : goal.returns
returns c = histories_right
