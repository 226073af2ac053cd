use Rattle.std.proofs.Common.{◌≡◌, take, count_by}
use Rattle.timetable_post.proofs.marks.count_set.Given as goal

abbrev pub invariant-loop-mark : goal.invariant-loop-mark
invariant-loop-mark l = l.count ≡ count_by (λ b. b) (take l.mark-index l.marks)
