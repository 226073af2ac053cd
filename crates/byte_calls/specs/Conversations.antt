-- What is said to a text of lines, in memory of a fixed length. Assumes nothing.
--     IsPrinted p t m      the text t is printed to m: it is the front of m, p bytes long; or p is none, and t is longer
--                          than m
--     AnswersBehind b line p m a p' m'  the line is answered, and its reply's line printed behind what was printed so far
--     Converses b bs r m a  a conversation over all lines of bs whose text is printed to m, as r tells
--     Says o lines r m     what is said to the lines is printed to m, as r tells; o is the answer to opening the day
--     Answers day lines m r m'  what is said to the lines over the day's bytes is written over the front of m, if it has
--                          longest_text bytes at most
use Rattle.std.specs.Prelude.{◌≡◌, ℕ, ◌<◌, ◌≤◌, List, ◌++◌, length, take, Some, None, Option, Result}
use Rattle.faults.specs.declared.Fault.{Fault}
use Rattle.records.specs.declared.event.Event.{Event}
use Rattle.records.specs.Limits.{longest_text}
use Rattle.blocks.specs.Blocks.{events_or_fault}
use Rattle.texts.specs.Pushing.{CopiesOut}
use Rattle.replies.specs.declared.reply.Reply.{Reply}
use Rattle.replies.specs.Printed.{reply_line}
use Rattle.dialogue.specs.Obeying.{Interprets, Session}
use Rattle.dialogue.specs.Conversations.{IsReplyText, WholeConversation}

abbrev pub IsPrinted : Option ℕ → List ℕ → List ℕ → Type 0
IsPrinted (Some n) t m = (n ≡ length t) × (n ≤ length m) × (take n m ≡ t)
IsPrinted None t m = length m < length t

pub record AnswersBehind
    (b : Session) (line : List ℕ) (p : Option ℕ) (m : List ℕ) (a : Session) (p' : Option ℕ)
    (m' : List ℕ)
    : Type 0 where
  pub reply : Result Reply Fault
  pub interprets : Interprets b line reply a
  pub printed_on : (t : List ℕ) → IsPrinted p t m → IsPrinted p' (t ++ reply_line reply a.steps) m'

pub record Converses
    (b : Session) (lines : List ℕ) (r : Option ℕ) (m : List ℕ) (a : Session)
    : Type 0 where
  pub text : List ℕ
  pub whole : WholeConversation b lines text a
  pub printed : IsPrinted r text m

abbrev pub Says : Result (List Event) Fault → List ℕ → Option ℕ → List ℕ → Type 0
Says o lines r m = (t : List ℕ) × IsReplyText o lines t × IsPrinted r t m

abbrev pub Answers : List ℕ → List ℕ → List ℕ → Option ℕ → List ℕ → Type 0
Answers day lines m r m' =
    (t : List ℕ) × IsReplyText (events_or_fault day) lines t × CopiesOut longest_text t m r m'
