use Rattle.std.proofs.Common.{◌≡◌, rules}
use Rattle.std.proofs.lemmas.Result.{err_from_is_err_and}
use Rattle.conversations.proofs.Progress.{progress_begins, progress_ends, progress_left, progress_on, progress_unread, progress_unwritten}
use Rattle.conversations.proofs.conversation.converse.Goals as goal

pub lines-init : goal.lines-init
lines-init g c = λ bs e. progress_begins _ bs _ _ e

pub returns-in_err-next_line : goal.returns-in_err-next_line
returns-in_err-next_line g c = λ bs e.
    let p = err_from_is_err_and c.from_residual.result c.from_residual.ensures.1 in
    rw p.1 (progress_unread _ c.next_line.result (search rules) c.next_line.ensures (c.lines.invariant bs e))

pub returns-then-not-branch : goal.returns-then-not-branch
returns-then-not-branch g c = λ bs e.
    progress_ends _ c.next_line.result (search rules) c.next_line.ensures (c.lines.invariant bs e)

pub returns-in_err-answer_line : goal.returns-in_err-answer_line
returns-in_err-answer_line g c = λ bs e.
    let p = err_from_is_err_and c.from_residual-in_err-answer_line.result c.from_residual-in_err-answer_line.ensures.1 in
    let same : c.deref.result.now ≡ c.next_line.new.line.items = search rules in
    rw p.1 (progress_unwritten _ c.next_line.result (search rules) c.answer_line.result c.next_line.ensures (rw same at c.answer_line.ensures) (c.lines.invariant bs e))

pub lines-preserved : goal.lines-preserved
lines-preserved g c = λ bs e.
    let same : c.deref.result.now ≡ c.next_line.new.line.items = search rules in
    progress_on _ c.next_line.result (search rules) c.answer_line.result (search rules) c.next_line.ensures (rw same at c.answer_line.ensures) (c.lines.invariant bs e)

pub returns : goal.returns
returns g c = λ bs e. progress_left (c.lines.invariant bs e)
