-- Histories: lists of calls with their answers, each meeting the post as the one before left it. Assumes nothing.
-- A history has the latest call first. What is in force is told by the history alone.
--     latest_after o n k   the latest accepted notice about event n after the notice in o, if there is one, where it was k
--                          before
--     latest h n           the latest accepted notice about event n, none where there was none
--     is_withdrawal k      there is a notice k, and after it an event is out of force
--     is_out h n           event n is out of force: the latest accepted notice about it was a withdrawal
--     withdrawals_by es h  what is out of force by h: these events, and how many of those of es they are
--     IsAnsweredRightly es h  every call of the history has the right answer after those before it
--     MarksAgree h marks   a mark is true exactly where its event is out of force by h
--     Explains h b         the history h explains the post b: every call of h has the right answer, and the marks are those
--                          by h, most_events of them; the empty history explains a new post
--     Continues b c a      whatever history explains the post b, that history and then c explain the post a
--     ExtendsHistory b a   the post a has the list of the post b; and whatever history explains b, some history that extends
--                          it explains a
--     Run h b              from a new post on, the calls of h lead to the post b: each performs on the post that the one
--                          before it left
--     HistoriesAreAnsweredRightly  after every such run, the empty one included, over any list: every call has the right
--                          answer, and an event's mark is true exactly where the latest accepted notice about it was a
--                          withdrawal
use Rattle.std.specs.Prelude.{◌≡◌, ℕ, Bool, false, List, [], ◌∷◌, ◌++◌, length, Some, None, Option, count_by, if◌then◌else◌, ◌==◌, slice_index_or}
use Rattle.std.specs.List.{range_with_len}
use Rattle.records.specs.declared.event.Event.{Event}
use Rattle.records.specs.Limits.{most_events}
use Rattle.timetable_post.specs.Calls.{Call, IsRight, Notice, Withdrawals, notice_in, out_after}
use Rattle.timetable_post.specs.Posts.{Performs, PostState, new_post}

abbrev pub latest_after : Option (ℕ × Notice) → ℕ → Option Notice → Option Notice
latest_after None n k = k
latest_after (Some (e, j)) n k = if e == n then Some j else k

abbrev pub latest : List Call → ℕ → Option Notice
latest [] n = None
latest (c ∷ h) n = latest_after (notice_in c) n (latest h n)

abbrev pub is_withdrawal : Option Notice → Bool
is_withdrawal None = false
is_withdrawal (Some k) = out_after k

abbrev pub is_out : List Call → ℕ → Bool
is_out h n = is_withdrawal (latest h n)

abbrev pub withdrawals_by : List Event → List Call → Withdrawals
withdrawals_by es h =
    record { is_out = is_out h; count = count_by (is_out h) (range_with_len 0 (length es)) }

abbrev pub IsAnsweredRightly : List Event → List Call → Type 0
IsAnsweredRightly es [] = Unit {0}
IsAnsweredRightly es (c ∷ h) = IsRight es (withdrawals_by es h) c × IsAnsweredRightly es h

abbrev pub MarksAgree : List Call → List Bool → Type 0
MarksAgree h marks = (n : ℕ) → slice_index_or marks n false ≡ is_out h n

pub record Explains (h : List Call) (b : PostState) : Type 0 where
  pub right : IsAnsweredRightly b.events h
  pub marks : MarksAgree h b.marks
  pub long : length b.marks ≡ most_events

abbrev pub Continues : PostState → Call → PostState → Type 0
Continues b c a = (h : List Call) → Explains h b → Explains (c ∷ h) a

pub record ExtendsHistory (b a : PostState) : Type 0 where
  pub list : a.events ≡ b.events
  pub extends : (h : List Call) → Explains h b → (more : List Call) × Explains (more ++ h) a

pub data Run : List Call → PostState → Type 0 where
  put_up : (es : List Event) (p : ℕ) → Run [] (new_post es p)
  then :
      {h : List Call} {b : PostState}
      → Run h b
      → (c : Call) (a : PostState)
      → Performs b c a
      → Run (c ∷ h) a

abbrev pub HistoriesAreAnsweredRightly : Type 0
HistoriesAreAnsweredRightly = (h : List Call) (b : PostState) → Run h b → Explains h b
