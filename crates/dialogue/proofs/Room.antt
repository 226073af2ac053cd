-- There is room for the line of every reply.
use Rattle.std.proofs.Common.{◌≡◌, ℕ, ◌≤◌, List, length, Some, None, Option, Result, arith}
use Rattle.std.specs.Option.{unwrap_or}
use Rattle.faults.specs.declared.Fault.{Fault}
use Rattle.records.specs.Limits.{longest_line}
use Rattle.replies.specs.declared.reply.Reply.{Reply}
use Rattle.replies.specs.Printed.{reply_line}
use Rattle.texts.specs.Pushing.{CopiesOut, IsOverFront}

pub written_whole : (r : Result Reply Fault) (steps m m' : List ℕ) (o : Option ℕ) → length m ≡ longest_line → length (reply_line r steps) ≤ longest_line → CopiesOut longest_line (reply_line r steps) m o m' → IsOverFront (reply_line r steps) m (unwrap_or o 0) m'
written_whole r steps m m' (Some n) long short w = w.1
written_whole r steps m m' None long short w = absurd (omega (arith, long, short, w.1))
