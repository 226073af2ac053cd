-- What a post does on a command, and on a line. Assumes nothing.
-- b is what the post and the tables are before, a what they are after; reply is the reply, or the fault in its place.
--     Session              a post and its tables at a moment: the post, the work tables for labels that are numbers, and for
--                          labels that are trips; the queue and the step table
--     session post t       a post and what the tables t hold
--     SameRoom b a         the work tables and the step table of a are as long as those of b
--     number_part b, trip_part b  the part of b that a query works on: with labels that are numbers, or trips
--     notice_reply r, query_reply r  the reply to a notice, or to a query, whose answer is r
--     Notices k e b reply a  a notice k about event e is answered by the marks, and the tables stay
--     Tallies b reply a    a tally; nothing changes
--     Asks k q x reply y   a query under the measure that k stands for, whose scores are the formula of k, over journeys
--                          that are walks in the temporal graph; x and y are what it works on, before and after
--     AsksBy i k q b reply a  such a query by labels of the kind i, with the tables for the other labels unchanged
--     Obeys b c reply a    what the command c does: the calls withdraw, reinstate, tally, and query under the
--                          measure of the letter
--     Interprets b line reply a  a line that spells a command is obeyed; any other is refused with 11, and everything is
--                          unchanged (`parse` tells for each line which it is); a extends the history of b, and its tables
--                          are as long; the reply's line has longest_line bytes at most
--     Responds b line m n a m'  a line is interpreted, and its reply's line written over the front of m, n bytes long
use Rattle.std.specs.Prelude.{◌≡◌, ℕ, ◌≤◌, List, length, Ok, Err, Option, Result}
use Rattle.std.specs.Result.{result_map_both}
use Rattle.faults.specs.declared.Fault.{Fault}
use Rattle.records.specs.Limits.{longest_line}
use Rattle.measures.specs.declared.by_trip.Trip.{Trip}
use Rattle.measures.specs.declared.criterion.Criterion.{Criterion}
use Rattle.measures.specs.Criteria.{LabelKind, formula, kind_of, number, ops, trip}
use Rattle.journeys.specs.declared.query.Query.{Query}
use Rattle.journeys.specs.Formulas.{ScoresBy}
use Rattle.journeys.specs.Walks.{WalksAreJourneys}
use Rattle.scans.specs.declared.arrival.Arrival.{Arrival}
use Rattle.scans.specs.declared.board.Incumbent.{Incumbent}
use Rattle.scans.specs.declared.entry.Entry.{Entry}
use Rattle.journeys.specs.declared.answer.Answer.{Answer}
use Rattle.search.specs.declared.carried.Carried.{Carried}
use Rattle.commands.specs.declared.command.Command.{Command}
use Rattle.commands.specs.declared.command.Command.TheVariants.{Find, Reinstate, Tally, Withdraw}
use Rattle.commands.specs.Grammar.{Spells}
use Rattle.commands.specs.Grammar as grammar
use Rattle.replies.specs.declared.reply.Reply.{Reply}
use Rattle.replies.specs.declared.reply.Reply.TheVariants.{Accepted, Count, Journey}
use Rattle.replies.specs.Printed.{reply_line}
use Rattle.texts.specs.Pushing.{IsOverFront}
use Rattle.timetable_post.specs.Calls.{Notice, notice_call, reinstatement, tally_call, withdrawal}
use Rattle.timetable_post.specs.Histories.{Continues, ExtendsHistory}
use Rattle.timetable_post.specs.Posts.{Performs, PostState}
use Rattle.timetable_post.specs.Queries.{Queries, QueryState, call_of}
use Rattle.dialogue.specs.declared.tables.PostTables.{PostTables}

pub record Session : Type 0 where
  pub post : PostState
  pub log : List (Option (Entry (Carried ℕ)))
  pub board : List (Option (Incumbent (Carried ℕ)))
  pub trip_log : List (Option (Entry (Carried Trip)))
  pub trip_board : List (Option (Incumbent (Carried Trip)))
  pub queue : List Arrival
  pub steps : List ℕ

abbrev pub session : PostState → PostTables → Session
session post t =
    record {
      post = post;
      log = t.log.now;
      board = t.board.now;
      trip_log = t.trip_log.now;
      trip_board = t.trip_board.now;
      queue = t.queue.now;
      steps = t.steps.now;
    }

abbrev pub SameRoom : Session → Session → Type 0
SameRoom b a =
    (length a.log ≡ length b.log)
    × (length a.board ≡ length b.board)
    × (length a.trip_log ≡ length b.trip_log)
    × (length a.trip_board ≡ length b.trip_board)
    × (length a.queue ≡ length b.queue)
    × (length a.steps ≡ length b.steps)

abbrev pub notice_reply : Result (Unit {0}) Fault → Result Reply Fault
notice_reply r = result_map_both (λ _. Accepted) (λ f. f) r

abbrev pub query_reply : Result Answer Fault → Result Reply Fault
query_reply r = result_map_both Journey (λ f. f) r

abbrev pub number_part : Session → QueryState (Carried ℕ)
number_part b =
    record { post = b.post; log = b.log; board = b.board; queue = b.queue; steps = b.steps }

abbrev pub trip_part : Session → QueryState (Carried Trip)
trip_part b =
    record { post = b.post; log = b.trip_log; board = b.trip_board; queue = b.queue; steps = b.steps }

pub record Asks
    {X : Type 0} (k : Criterion) (q : Query) (x : QueryState X) (reply : Result Reply Fault)
    (y : QueryState X)
    : Type 0 where
  pub answer : Result Answer Fault
  pub says : reply ≡ query_reply answer
  pub queries : Queries (ops k) q x answer y
  pub history : Continues x.post (call_of (ops k) q x answer y.steps) y.post
  pub plain : ScoresBy (ops k) (formula k)
  pub walks : WalksAreJourneys

pub record Notices
    (k : Notice) (e : ℕ) (b : Session) (reply : Result Reply Fault) (a : Session)
    : Type 0 where
  pub answer : Result (Unit {0}) Fault
  pub says : reply ≡ notice_reply answer
  pub performs : Performs b.post (notice_call k e answer) a.post
  pub history : Continues b.post (notice_call k e answer) a.post
  pub rest : a ≡ record b { post = a.post }

pub record Tallies (b : Session) (reply : Result Reply Fault) (a : Session) : Type 0 where
  pub count : ℕ
  pub says : reply ≡ Ok (Count count)
  pub performs : Performs b.post (tally_call count) b.post
  pub history : Continues b.post (tally_call count) b.post
  pub same : a ≡ b

abbrev pub AsksBy :
    LabelKind → Criterion → Query → Session → Result Reply Fault → Session → Type 0
AsksBy number k q b reply a =
    Asks k q (number_part b) reply (number_part a)
    × (a.trip_log ≡ b.trip_log)
    × (a.trip_board ≡ b.trip_board)
AsksBy trip k q b reply a =
    Asks k q (trip_part b) reply (trip_part a) × (a.log ≡ b.log) × (a.board ≡ b.board)

abbrev pub Obeys : Session → Command → Result Reply Fault → Session → Type 0
Obeys b (Withdraw event) reply a = Notices withdrawal event b reply a
Obeys b (Reinstate event) reply a = Notices reinstatement event b reply a
Obeys b Tally reply a = Tallies b reply a
Obeys b (Find k q) reply a = AsksBy (kind_of k) k q b reply a

pub record Interprets
    (b : Session) (line : List ℕ) (reply : Result Reply Fault) (a : Session)
    : Type 0 where
  pub obeys : (c : Command) → Spells line c → Obeys b c reply a
  pub refuses : (f : Fault) → grammar.IsRefused line f → (reply ≡ Err f) × (a ≡ b)
  pub history : ExtendsHistory b.post a.post
  pub room : SameRoom b a
  pub short : length (reply_line reply a.steps) ≤ longest_line

pub record Responds
    (b : Session) (line m : List ℕ) (n : ℕ) (a : Session) (m' : List ℕ)
    : Type 0 where
  pub reply : Result Reply Fault
  pub interprets : Interprets b line reply a
  pub written : IsOverFront (reply_line reply a.steps) m n m'
