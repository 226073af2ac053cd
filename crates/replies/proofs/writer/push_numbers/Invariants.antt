use Rattle.std.proofs.Common.{◌≡◌, ◌++◌, take}
use Rattle.replies.specs.Printed.{numbers}
use Rattle.replies.proofs.writer.push_numbers.Given as goal

abbrev pub invariant-loop-value : goal.invariant-loop-value
invariant-loop-value l = l.line.bytes ≡ l.fn.line.bytes ++ numbers (take l.value-index l.values)
