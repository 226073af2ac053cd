use Rattle.std.proofs.Common.{◌≡◌, ℕ, ◌≤◌, min, length}
use Rattle.scans.specs.Accounts.{Accounts}
use Rattle.scans.specs.Tables.{SameWork, contents}
use Rattle.scans.proofs.work.Work.drain.Given as goal

abbrev pub invariant-loop-arrival : goal.invariant-loop-arrival
invariant-loop-arrival g l =
    record {
      fewer : l.self.used ≤ l.initial.self.used;
      log : l.self.log.now ≡ l.initial.self.log.now;
      accounts :
          (k t : ℕ)
          → t ≤ l.minute
          → Accounts g.M.Measure.ops (contents l.initial.self) k t
          → Accounts g.M.Measure.ops (contents l.self) k l.minute;
      same : SameWork l.initial.self l.self;
    }

abbrev pub decreases-loop-arrival : goal.decreases-loop-arrival
decreases-loop-arrival g l = min l.self.used (length l.self.queue.now)
