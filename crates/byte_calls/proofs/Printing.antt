-- What is printed behind what was printed so far.
use Rattle.std.proofs.Common.{◌≡◌, ℕ, ◌≤◌, List, [], length, take, drop, Some, None, Err, Option, Result, sym, refl, ap, subst, ◌∙◌, arith}
use Rattle.std.proofs.lemmas.List.{length-append, length-take, take_at}
use Rattle.faults.specs.declared.Fault.{Fault}
use Rattle.faults.specs.Numbered.{report_of, report_text}
use Rattle.records.specs.declared.event.Event.{Event}
use Rattle.records.specs.Limits.{longest_line, longest_text}
use Rattle.replies.specs.Printed.{newline, reply_line}
use Rattle.texts.specs.Pushing.{CopiesOut, IsOverFront}
use Rattle.byte_calls.specs.Conversations.{IsPrinted, Says}
use Rattle.dialogue.specs.Conversations.{IsReplyText}

-- what is over the front of memory is its first bytes
pub front_of : (t m : List ℕ) (n : ℕ) (m' : List ℕ) → IsOverFront t m n m' → take n m' ≡ t
front_of t m n m' o = ap (take n) o.2 ∙ take_at t (drop n m) n (sym o.0)

-- the line of a fault, which is never too long
pub fault_said : (o : Result (List Event) Fault) (f : Fault) (lines m m' : List ℕ) (r : Option ℕ) → Err f ≡ o → length m ≡ longest_text → length (report_text (report_of f)) ≤ 31 → CopiesOut longest_line (reply_line (Err f) []) m r m' → Says o lines r m'
fault_said o f lines m m' r e long short w = (reply_line (Err f) [], subst (λ x. IsReplyText x lines (reply_line (Err f) [])) e refl, printed_at r w)
  where
    printed_at : (q : Option ℕ) → CopiesOut longest_line (reply_line (Err f) []) m q m' → IsPrinted q (reply_line (Err f) []) m'
    printed_at (Some n) v =
        let front = front_of _ m n m' v.1 in
        (v.1.0, omega (arith, ap length front, v.1.0, length-take n m'), front)
    printed_at None v = absurd (omega (arith, v.1, long, short, length-append (report_text (report_of f)) newline))
