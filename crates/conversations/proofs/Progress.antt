-- A conversation in progress.
use Rattle.std.proofs.Common.{◌≡◌, Bool, true, false, IsOk, ℕ, List, [], ◌++◌, take, Some, Option, Ok, Err, Result, sym, refl, subst, arith, append-nil, take_all}
use Rattle.std.specs.Result.{IsErr}
use Rattle.std.proofs.lemmas.Bool.{both_ways}
use Rattle.std.specs.Io.KnownBytes.{Appends, Consumes}
use Rattle.std.proofs.KnownBytes.{Appends-nil, Appends-trans}
use Rattle.replies.specs.Printed.{reply_line}
use Rattle.dialogue.specs.Conversations.{Conversation, WholeConversation, one_more_line, no_lines}
use Rattle.dialogue.specs.Obeying.{Session}
use Rattle.dialogue.proofs.Continuing.{extends_on}
use Rattle.dialogue.proofs.Conversing.{conversation_extends}
use Rattle.conversations.specs.Streams.{AnswersLine, IsCutShort, IsInterrupted, ReadsLine, reading, writing}

pub record Progress (b : Session) (bs : List ℕ) (w : Option (List ℕ)) (now : Session) (r' w' : Option (List ℕ)) : Type 0 where
  pub said : List ℕ
  pub left : List ℕ
  pub lines : Conversation b bs said now left
  pub reader : r' ≡ Some left
  pub written : Appends w w' said

pub progress_begins : (b : Session) (bs : List ℕ) (w r : Option (List ℕ)) → r ≡ Some bs → Progress b bs w b r w
progress_begins b bs w r e = record { said = []; left = bs; lines = no_lines; reader = e; written = Appends-nil w }

-- there was no line, and the text is at its end
pub progress_ends : {b now : Session} {bs : List ℕ} {w r r' w' : Option (List ℕ)} {E : Type 0} → (line : List ℕ) (h : Result Bool E) → h ≡ Ok false → ((left : List ℕ) → r ≡ Some left → ReadsLine left line h r') → Progress b bs w now r w' → (t : List ℕ) × WholeConversation b bs t now × (r' ≡ Some []) × Appends w w' t
progress_ends {b} {now} {bs} {r'} {E} line h e read p =
    let none = subst (λ x. ReadsLine {E = E} p.left line x r') e (read p.left p.reader) in (
      p.said,
      record {
        lines = subst (Conversation b bs p.said now) none.0 p.lines;
        history = conversation_extends p.lines;
      },
      none.1,
      p.written,
    )

-- a line could not be read
pub progress_unread : {b now : Session} {bs : List ℕ} {w r r' w' : Option (List ℕ)} {E : Type 0} → (line : List ℕ) (h : Result Bool E) → IsErr h → ((left : List ℕ) → r ≡ Some left → ReadsLine left line h r') → Progress b bs w now r w' → IsCutShort b bs w r' w' now
progress_unread {b} {now} {bs} {w} {r'} {w'} line (Err e) h read p =
    let less = read p.left p.reader in
    record {
      said = p.said;
      left = p.left;
      part = [];
      at = now;
      lines = p.lines;
      interruption = reading less.0 less.1 less.2;
      written = subst (Appends w w') (sym (append-nil p.said)) p.written;
      history = conversation_extends p.lines;
    }
progress_unread line (Ok x) h read p = absurd (both_ways _ refl h)

-- a line was read and answered
pub progress_on : {b m a : Session} {bs : List ℕ} {w r r' w' v : Option (List ℕ)} {E F : Type 0} → (line : List ℕ) (h : Result Bool E) → h ≡ Ok true → (s : Result (Unit {0}) F) → IsOk s → ((left : List ℕ) → r ≡ Some left → ReadsLine left line h r') → AnswersLine m line w' s v a → Progress b bs w m r w' → Progress b bs w a r' v
progress_on {b} {m} {a} {bs} {w} {r'} {w'} {v} {E} line h e (Ok x) o read answers p =
    let some = subst (λ x. ReadsLine {E = E} p.left line x r') e (read p.left p.reader) in
    let all : take answers.written.count (reply_line answers.reply a.steps) ≡ reply_line answers.reply a.steps =
    take_all answers.written.count (reply_line answers.reply a.steps) (omega (arith, answers.written.whole)) in
    record {
      said = p.said ++ reply_line answers.reply a.steps;
      left = some.0;
      lines = one_more_line p.lines some.1 answers.interprets;
      reader = some.2;
      written = Appends-trans _ _ _ _ _ p.written (subst (Appends w' v) all answers.written.front);
    }
progress_on line h e (Err f) o read answers p = absurd (both_ways _ refl o)

-- a reply could not be written whole
pub progress_unwritten : {b m a : Session} {bs : List ℕ} {w r r' w' v : Option (List ℕ)} {E F : Type 0} → (line : List ℕ) (h : Result Bool E) → h ≡ Ok true → (s : Result (Unit {0}) F) → ((left : List ℕ) → r ≡ Some left → ReadsLine left line h r') → AnswersLine m line w' s v a → Progress b bs w m r w' → IsCutShort b bs w r' v a
progress_unwritten {b} {m} {a} {bs} {w} {r'} {w'} {v} {E} line h e s read answers p =
    let some = subst (λ x. ReadsLine {E = E} p.left line x r') e (read p.left p.reader) in
    let part = take answers.written.count (reply_line answers.reply a.steps) in
    record {
      said = p.said;
      left = p.left;
      part = part;
      at = m;
      lines = p.lines;
      interruption =
          subst (λ x. IsInterrupted m p.left x part a) (sym some.2) (writing answers.written.count some.1 answers.interprets);
      written = Appends-trans _ _ _ _ _ p.written answers.written.front;
      history =
          extends_on b.post m.post a.post (conversation_extends p.lines) answers.interprets.history;
    }

-- no more lines are read
pub progress_left : {b now : Session} {bs : List ℕ} {w r w' : Option (List ℕ)} → Progress b bs w now r w' → IsCutShort b bs w r w' now
progress_left {b} {now} {bs} {w} {r} {w'} p =
    record {
      said = p.said;
      left = p.left;
      part = [];
      at = now;
      lines = p.lines;
      interruption = reading [] (subst (λ x. Consumes (Some p.left) x []) (sym p.reader) refl) (λ k d lt. absurd (omega (arith, lt)));
      written = subst (Appends w w') (sym (append-nil p.said)) p.written;
      history = conversation_extends p.lines;
    }
