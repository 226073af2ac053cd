use Rattle.std.proofs.Common.{◌≡◌, ℕ, ◌+◌, ◌≤◌, List, length}
use Rattle.walks.specs.Logs.{TracesBack}
use Rattle.scans.specs.Views.{view}
use Rattle.search.proofs.trace.count_steps.Given as goal

abbrev pub invariant-loop-before : goal.invariant-loop-before
invariant-loop-before g l =
    record {
      few : l.count + l.stage.event ≤ l.initial.stage.event + 1;
      left :
          (js : List ℕ)
          → TracesBack (view l.log) l.initial.stage.event l.initial.stage.called js
          → (ks : List ℕ) × TracesBack (view l.log) l.stage.event l.stage.called ks × (length js + 1 ≡ l.count + length ks);
    }

abbrev pub decreases-loop-before : goal.decreases-loop-before
decreases-loop-before g l = l.stage.event
