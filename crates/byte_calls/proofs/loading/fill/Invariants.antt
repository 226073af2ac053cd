use Rattle.std.proofs.Common.{◌≡◌}
use Rattle.byte_calls.proofs.Filled.{Underway}
use Rattle.byte_calls.proofs.loading.fill.Given as goal

abbrev pub invariant-loop-record : goal.invariant-loop-record
invariant-loop-record l =
    record {
      named : l.load.memory.ghost_name ≡ l.initial.load.memory.ghost_name;
      size : l.record-iterator.size ≡ 16;
      underway : Underway l.initial.load.memory.now l.records l.record-iterator.rest.now l.load.memory.now l.load.held;
    }
