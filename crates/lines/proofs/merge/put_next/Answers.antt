use Rattle.std.proofs.Common.{sym, subst}
use Rattle.lines.specs.Merges.{QueuesNext}
use Rattle.lines.proofs.Drawing.{queued}
use Rattle.lines.proofs.merge.put_next.Goals as goal

pub returns-in-Some : goal.returns-in-Some
returns-in-Some c =
    subst (λ o. QueuesNext c.args.slots.now c.args.used.now o c.put.new.slots c.put.new.used) (sym c.in-Some.is)
    (queued c.args.slots.now c.args.used.now c.in-Some.departure c.put.result c.put.new.slots c.put.new.used c.requires c.put.ensures)
