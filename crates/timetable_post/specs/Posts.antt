-- What a post is to its callers, and what a call does to it. Assumes nothing.
--     PostState            the list of the post's source and the place in it, and the marks: true for an event that is
--                          out of force
--     post_state es p marks  the state with the list es, the place p and the marks
--     new_post es p        the state of a post that was just put up over a source of the list es, at the place p: most_events marks,
--                          of which none is set
--     IsPost b             what is so of every post: the list is a timetable's, the place is within it, and there are
--                          most_events marks
--     withdrawals_in marks  what is out of force by the marks
--     marks_after o marks  the marks after the notice in o, if there is one: that of its event is set or taken away
--     place_after es p c   the place after the call c: a query that passes its checks reads the list es from its start up
--                          to the close; any other call leaves the place p
--     post_after b c       the post after the call c: the list stays, place and marks are as above
--     Performs b c a       the call c takes the post from b to a: b is a post, c has the answer that is right for its
--                          marks, and a is the post after it
use Rattle.std.specs.Prelude.{◌≡◌, ℕ, ◌≤◌, Bool, false, List, length, replicate, is_none, if◌then◌else◌, Some, None, Option, count_by, slice_index_or, slice_set}
use Rattle.faults.specs.Rules.{first_fault}
use Rattle.records.specs.declared.event.Event.{Event}
use Rattle.records.specs.Events.{IsTimetable}
use Rattle.records.specs.Limits.{most_events}
use Rattle.search.specs.Searches.{reads_of}
use Rattle.timetable_post.specs.Calls.{Call, IsRight, Notice, Withdrawals, checks, notice_in, out_after, query_call}

pub record PostState : Type 0 where
  pub events : List Event
  pub place : ℕ
  pub marks : List Bool

abbrev pub post_state : List Event → ℕ → List Bool → PostState
post_state es p marks = record { events = es; place = p; marks = marks }

abbrev pub new_post : List Event → ℕ → PostState
new_post es p = post_state es p (replicate most_events false)

pub record IsPost (b : PostState) : Type 0 where
  pub listed : IsTimetable b.events
  pub within : b.place ≤ length b.events
  pub long : length b.marks ≡ most_events

abbrev pub withdrawals_in : List Bool → Withdrawals
withdrawals_in marks =
    record { is_out = λ n. slice_index_or marks n false; count = count_by (λ b. b) marks }

abbrev pub marks_after : Option (ℕ × Notice) → List Bool → List Bool
marks_after None marks = marks
marks_after (Some (e, k)) marks = slice_set marks e (out_after k)

abbrev pub place_after : List Event → ℕ → Call → ℕ
place_after es p (query_call i r steps) =
    if is_none (first_fault (checks es i)) then reads_of es i.query.close else p
place_after es p _ = p

abbrev pub post_after : PostState → Call → PostState
post_after b c =
    post_state b.events (place_after b.events b.place c) (marks_after (notice_in c) b.marks)

pub record Performs (b : PostState) (c : Call) (a : PostState) : Type 0 where
  pub post : IsPost b
  pub right : IsRight b.events (withdrawals_in b.marks) c
  pub after : a ≡ post_after b c
