use Rattle.std.proofs.Common.{take}
use Rattle.lines.proofs.Drawing.{Filled}
use Rattle.lines.proofs.merge.Merge.begin.Given as goal

abbrev pub invariant-loop-line : goal.invariant-loop-line
invariant-loop-line l = Filled (take l.line l.cursor-items) l.slots l.used
