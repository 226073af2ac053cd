-- A conversation over a reader and a writer. Assumes nothing.
-- b is the session before, a or z the one after; bs is what the reader has left before, r' what it
-- has left after; w and w' are what the writer holds, before and after; r is the result. A w that is
-- none is not known: then nothing is said of w'.
--     ReadsLine bs l r r'  a line is read off the text bs: it is l; or there is none; or, at an
--                          error, no more than a line was taken
--     WritesText t w r w'  the text t is written: all of it, or a front of it at an error
--     AnswersLine b line w r w' a  the line is answered, and its reply's line written
--     IsInterrupted a left r' part z  what may be under way at an error, behind the lines that were
--                          answered: the next line is read, of which no more was taken; or the
--                          reply to it is written, of which part was
--     IsCutShort b bs w r' w' z  lines at the front of bs were answered, their replies written whole,
--                          and an interruption came; the post at the end is explained by some history
--                          that extends whatever history explains the post at the start
--     Converses b bs w r r' w' a  the whole text bs is read, and what is said to it is written; or,
--                          at an error, it is cut short
--     FailsAtOnce bs w r r' w'  an error, with nothing read and nothing written
--     Serves o bs w r r' w'  where o, the answer to opening the day, is a list of events, a new post
--                          over them converses, or it fails at once, for whatever cause; where o is a
--                          fault, its line is written, and nothing read
--     ServesFile o bs w r r' w'  the same, or it fails at once, for whatever cause, also where o is a
--                          fault
--     IsHeldBy remaining f day  the file f holds the bytes of the day; where there is no file, there
--                          are none. remaining tells the bytes that a file has left, none where that
--                          is not known
use Rattle.std.specs.Prelude.{◌≡◌, ◌⊎◌, ℕ, List, [], ◌++◌, length, take, Some, None, Ok, Err, OnOk, Option, Result, Bool, true, false}
use Rattle.std.specs.Result.{IsErr}
use Rattle.std.specs.Io.{StopsAt}
use Rattle.std.specs.Io.KnownBytes.{Appends, Consumes}
use Rattle.faults.specs.declared.Fault.{Fault}
use Rattle.records.specs.declared.event.Event.{Event}
use Rattle.timetable_post.specs.Histories.{ExtendsHistory}
use Rattle.replies.specs.declared.reply.Reply.{Reply}
use Rattle.replies.specs.Printed.{reply_line}
use Rattle.dialogue.specs.Conversations.{Conversation, IsFirstLine, IsNewSession, WholeConversation}
use Rattle.dialogue.specs.Obeying.{Interprets, Session}

abbrev pub ReadsLine :
    {E : Type 0} → List ℕ → List ℕ → Result Bool E → Option (List ℕ) → Type 0
ReadsLine bs l (Ok true) r' = (r : List ℕ) × IsFirstLine bs l r × (r' ≡ Some r)
ReadsLine bs l (Ok false) r' = (bs ≡ []) × (r' ≡ Some [])
ReadsLine bs l (Err e) r' = (taken : List ℕ) × Consumes (Some bs) r' taken × StopsAt taken 10

pub record WritesText
    {E : Type 0} (t : List ℕ) (w : Option (List ℕ)) (r : Result (Unit {0}) E) (w' : Option (List ℕ))
    : Type 0 where
  pub count : ℕ
  pub front : Appends w w' (take count t)
  pub whole : OnOk r (count ≡ length t)

pub record AnswersLine
    {E : Type 0} (b : Session) (line : List ℕ) (w : Option (List ℕ)) (r : Result (Unit {0}) E)
    (w' : Option (List ℕ)) (a : Session)
    : Type 0 where
  pub reply : Result Reply Fault
  pub interprets : Interprets b line reply a
  pub written : WritesText (reply_line reply a.steps) w r w'

pub data IsInterrupted :
    Session → List ℕ → Option (List ℕ) → List ℕ → Session → Type 0 where
  reading :
      {a : Session} {left : List ℕ} {r' : Option (List ℕ)}
      → (taken : List ℕ)
      → Consumes (Some left) r' taken
      → StopsAt taken 10
      → IsInterrupted a left r' [] a
  writing :
      {a z : Session} {left l r : List ℕ} {reply : Result Reply Fault}
      → (count : ℕ)
      → IsFirstLine left l r
      → Interprets a l reply z
      → IsInterrupted a left (Some r) (take count (reply_line reply z.steps)) z

pub record IsCutShort
    (b : Session) (bs : List ℕ) (w r' w' : Option (List ℕ)) (z : Session)
    : Type 0 where
  pub said : List ℕ
  pub left : List ℕ
  pub part : List ℕ
  pub at : Session
  pub lines : Conversation b bs said at left
  pub interruption : IsInterrupted at left r' part z
  pub written : Appends w w' (said ++ part)
  pub history : ExtendsHistory b.post z.post

abbrev pub Converses :
    {E : Type 0} → Session → List ℕ → Option (List ℕ) → Result (Unit {0}) E
    → Option (List ℕ) → Option (List ℕ) → Session → Type 0
Converses b bs w (Ok x) r' w' a =
    (t : List ℕ) × WholeConversation b bs t a × (r' ≡ Some []) × Appends w w' t
Converses b bs w (Err e) r' w' a = IsCutShort b bs w r' w' a

abbrev pub FailsAtOnce :
    {E : Type 0} → List ℕ → Option (List ℕ) → Result (Unit {0}) E
    → Option (List ℕ) → Option (List ℕ) → Type 0
FailsAtOnce bs w r r' w' = IsErr r × (r' ≡ Some bs) × Appends w w' []

abbrev pub Serves :
    {E : Type 0} → Result (List Event) Fault → List ℕ → Option (List ℕ) → Result (Unit {0}) E
    → Option (List ℕ) → Option (List ℕ) → Type 0
Serves (Ok es) bs w r r' w' =
    FailsAtOnce bs w r r' w'
    ⊎ ((b a : Session) × IsNewSession es b × Converses b bs w r r' w' a)
Serves (Err f) bs w r r' w' = WritesText (reply_line (Err f) []) w r w' × (r' ≡ Some bs)

abbrev pub ServesFile :
    {E : Type 0} → Result (List Event) Fault → List ℕ → Option (List ℕ) → Result (Unit {0}) E
    → Option (List ℕ) → Option (List ℕ) → Type 0
ServesFile o bs w r r' w' = FailsAtOnce bs w r r' w' ⊎ Serves o bs w r r' w'

abbrev pub IsHeldBy : {D : Type 0} → (D → Option (List ℕ)) → Option D → List ℕ → Type 0
IsHeldBy remaining None day = day ≡ []
IsHeldBy remaining (Some d) day = remaining d ≡ Some day
