use Rattle.std.proofs.Common.{refl}
use Rattle.queue.specs.Queue.{elements}
use Rattle.scans.proofs.Accounting.{due_taken, least_later}
use Rattle.scans.proofs.work.take_due.Goals as goal

pub returns-then-next-minute : goal.returns-then-next-minute
returns-then-next-minute c = (
  refl,
  refl,
  λ h.
      least_later c.args.minute c.in_ok-next.next (elements c.args.queue.now c.args.used.now) c.if-next-minute.true
      (c.in_ok-next.ensures.least h),
)

pub returns : goal.returns
returns c =
    due_taken c.args.minute c.args.queue.now c.args.used.now c.in_ok-next.next c.in_ok-next.ensures c.if-next-minute.false
    c.take.result c.take.new.slots c.take.new.used c.take.ensures
