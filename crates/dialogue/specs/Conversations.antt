-- A text of lines, and what a post says to it. Assumes nothing.
--     IsFirstLine bs l r   the first line of the text bs is l, and r is the text behind it: l has no byte 10; a byte 10
--                          ends it, or it is not empty and nothing follows
--     Conversation b bs t a r  lines at the front of the text bs are answered in turn, the first in the session b, each other
--                          in the one that the line before left; a is the session after the last, b where there is none;
--                          t is what is printed, the lines of the replies one behind another, and r is the text that is
--                          left behind those lines
--     WholeConversation b bs t a  every line of bs is so answered; and the post at the end is explained by some history that
--                          extends whatever history explains the post at the start
--     IsNewSession es b    a post that was just put up over a source of the list es, at its start, so that the empty history
--                          explains it; logs of two entries for each of es, boards of board_slots, a queue of event_slots and a
--                          step table of most_events slots
--     IsReplyText o lines t  t is what is said to the lines, o being what opening the day answered: where that is a list of
--                          events, what a new post over them says; else the line of the fault
use Rattle.std.specs.Prelude.{◌≡◌, ◌≢◌, ℕ, ◌*◌, ◌<◌, ◌⊎◌, List, [], ◌∷◌, ◌++◌, length, Ok, Err, Result, slice_index_or}
use Rattle.faults.specs.declared.Fault.{Fault}
use Rattle.records.specs.declared.event.Event.{Event}
use Rattle.records.specs.Limits.{board_slots, event_slots, most_events}
use Rattle.timetable_post.specs.Histories.{Explains, ExtendsHistory}
use Rattle.timetable_post.specs.Posts.{new_post}
use Rattle.replies.specs.declared.reply.Reply.{Reply}
use Rattle.replies.specs.Printed.{reply_line}
use Rattle.dialogue.specs.Obeying.{Interprets, Session}

pub record IsFirstLine (bs l r : List ℕ) : Type 0 where
  pub whole : (i : ℕ) → i < length l → slice_index_or l i 0 ≢ 10
  pub ends : (bs ≡ l ++ 10 ∷ r) ⊎ ((bs ≡ l) × (r ≡ []) × (0 < length l))

pub data Conversation (b : Session) (bs : List ℕ) : List ℕ → Session → List ℕ → Type 0 where
  no_lines : Conversation b bs [] b bs
  one_more_line :
      {m a : Session} {t left l r : List ℕ} {reply : Result Reply Fault}
      → Conversation b bs t m left
      → IsFirstLine left l r
      → Interprets m l reply a
      → Conversation b bs (t ++ reply_line reply a.steps) a r

pub record WholeConversation (b : Session) (bs t : List ℕ) (a : Session) : Type 0 where
  pub lines : Conversation b bs t a []
  pub history : ExtendsHistory b.post a.post

pub record IsNewSession (es : List Event) (b : Session) : Type 0 where
  pub post : b.post ≡ new_post es 0
  pub history : Explains [] b.post
  pub log : length b.log ≡ length es * 2
  pub board : length b.board ≡ board_slots
  pub trip_log : length b.trip_log ≡ length es * 2
  pub trip_board : length b.trip_board ≡ board_slots
  pub queue : length b.queue ≡ event_slots
  pub steps : length b.steps ≡ most_events

abbrev pub IsReplyText : Result (List Event) Fault → List ℕ → List ℕ → Type 0
IsReplyText (Ok es) lines t = (b a : Session) × IsNewSession es b × WholeConversation b lines t a
IsReplyText (Err f) lines t = t ≡ reply_line (Err f) []
