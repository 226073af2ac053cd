use Rattle.std.proofs.Common.{◌≡◌, take}
use Rattle.commands.specs.Machine.{IsBounded, text_so_far}
use Rattle.commands.proofs.reader.parse.Given as goal

abbrev pub invariant-loop-place : goal.invariant-loop-place
invariant-loop-place l = IsBounded l.state × (take l.place l.line ≡ text_so_far l.state)
