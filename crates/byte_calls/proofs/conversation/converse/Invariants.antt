use Rattle.std.proofs.Common.{◌≡◌, ◌≤◌, length, IfSome}
use Rattle.dialogue.specs.Obeying.{session}
use Rattle.byte_calls.proofs.Underway.{Underway}
use Rattle.byte_calls.proofs.conversation.converse.Given as goal

abbrev pub invariant-loop-line : goal.invariant-loop-line
invariant-loop-line g l =
    record {
      underway :
          Underway (session l.initial.post l.initial.tables) l.lines
          (session l.post l.tables) l.left l.so_far l.text;
      within : IfSome l.so_far (λ n. n ≤ length l.text);
      long : length l.text ≡ length l.initial.text;
    }

abbrev pub decreases-loop-line : goal.decreases-loop-line
decreases-loop-line g l = length l.left
