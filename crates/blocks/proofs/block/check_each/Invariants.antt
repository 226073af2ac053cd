use Rattle.std.proofs.Common.{◌≡◌, drop}
use Rattle.faults.specs.Rules.{first_fault}
use Rattle.blocks.specs.Blocks.{records_rules}
use Rattle.blocks.proofs.Lists.{rules_behind}
use Rattle.blocks.proofs.block.check_each.Given as goal

abbrev pub invariant-loop-place : goal.invariant-loop-place
invariant-loop-place l =
    first_fault (rules_behind l.last l.place (drop l.place l.rows)) ≡ first_fault (records_rules l.rows)
