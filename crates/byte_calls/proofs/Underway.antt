-- A conversation under way: what was said so far, and what is still to be answered.
use Rattle.std.proofs.Common.{◌≡◌, ℕ, ◌<◌, ⊎_elim, List, [], ◌∷◌, ◌++◌, length, Some, Option, refl, ap, subst, arith}
use Rattle.std.proofs.lemmas.List.{length-append, nil_from_length}
use Rattle.replies.specs.Printed.{reply_line}
use Rattle.dialogue.specs.Conversations.{Conversation, IsFirstLine, one_more_line, no_lines}
use Rattle.dialogue.specs.Obeying.{Session}
use Rattle.dialogue.proofs.Conversing.{conversation_extends}
use Rattle.byte_calls.specs.Conversations.{AnswersBehind, Converses, IsPrinted}

-- what stands behind the first line is shorter
pub rest_shorter : (bs l r : List ℕ) → IsFirstLine bs l r → length r < length bs
rest_shorter bs l r f =
    ⊎_elim (λ e. omega (arith, ap (λ x. length x) e, length-append l (10 ∷ r)))
    (λ e. omega (arith, ap (λ x. length x) e.0, ap (λ x. length x) e.1, e.2))
    f.ends

-- from b on, the lines of bs are answered up to what is left of them
pub record Underway (b : Session) (bs : List ℕ) (now : Session) (left : List ℕ) (p : Option ℕ) (m : List ℕ) : Type 0 where
  pub text : List ℕ
  pub lines : Conversation b bs text now left
  pub printed : IsPrinted p text m

pub underway_begun : (b : Session) (bs m : List ℕ) → Underway b bs b bs (Some 0) m
underway_begun b bs m = record { text = []; lines = no_lines; printed = (refl, omega arith, refl) }

pub underway_on : (b now next : Session) (bs left l r : List ℕ) (p p' : Option ℕ) (m m' : List ℕ) → IsFirstLine left l r → AnswersBehind now l p m next p' m' → Underway b bs now left p m → Underway b bs next r p' m'
underway_on b now next bs left l r p p' m m' f a u =
    record {
      text = u.text ++ reply_line a.reply next.steps;
      lines = one_more_line u.lines f a.interprets;
      printed = a.printed_on u.text u.printed;
    }

pub underway_ends : (b now : Session) (bs left : List ℕ) (p : Option ℕ) (m : List ℕ) → length left ≡ 0 → Underway b bs now left p m → Converses b bs p m now
underway_ends b now bs left p m e u =
    record {
      text = u.text;
      whole =
          record {
            lines = subst (λ x. Conversation b bs u.text now x) (nil_from_length left e) u.lines;
            history = conversation_extends u.lines;
          };
      printed = u.printed;
    }
