-- What a query does, whole. Assumes nothing.
-- m is the measure; q is the query; b is what the query works on, before it, and a the same after it; r is the answer, and
-- steps' the step table after it.
--     QueryState L         what a query works on: the post, the three work tables for labels of the kind L, and the step
--                          table
--     query_state post t   a post and what the tables t hold
--     lengths_of b         how long the tables are
--     request_of m q b     what is asked, in the words of Calls: the query, the lengths of the tables, scores by m
--     call_of m q b r s    the query as a call, with the answer r and the step table s after it
--     checks_of m q b      the rules that the query must obey before it is searched for
--     AnswersQuery m q b r steps'  by the case of r: Ok x names a journey, the best one that fits; Err f is the fault of
--                          the first broken rule, or says that none fits, and then the step table is unchanged
--     Queries m q b r a    answers: as above; refused: where a check is not passed everything is unchanged; performs:
--                          what the call does to the post
use Rattle.std.specs.Prelude.{◌≡◌, ℕ, ◌⊎◌, List, Some, Ok, Err, Option, Result}
use Rattle.faults.specs.declared.Fault.{Fault}
use Rattle.faults.specs.declared.Fault.TheVariants.{NoJourney}
use Rattle.faults.specs.Rules.{IsKept, Rule, first_fault}
use Rattle.measures.specs.Measures.{Ops}
use Rattle.journeys.specs.declared.query.Query.{Query}
use Rattle.journeys.specs.Best.{NothingFits}
use Rattle.journeys.specs.Formulas.{score_of}
use Rattle.journeys.specs.Marks.{is_in_force}
use Rattle.scans.specs.declared.arrival.Arrival.{Arrival}
use Rattle.scans.specs.declared.board.Incumbent.{Incumbent}
use Rattle.scans.specs.declared.entry.Entry.{Entry}
use Rattle.journeys.specs.declared.answer.Answer.{Answer}
use Rattle.search.specs.declared.tables.Tables.{Tables}
use Rattle.search.specs.Lengths.{Lengths, lengths_in}
use Rattle.search.specs.Searches.{NamesJourney}
use Rattle.timetable_post.specs.Calls.{Call, Request, checks, query_call}
use Rattle.timetable_post.specs.Posts.{Performs, PostState}

pub record QueryState (L : Type 0) : Type 0 where
  pub post : PostState
  pub log : List (Option (Entry L))
  pub board : List (Option (Incumbent L))
  pub queue : List Arrival
  pub steps : List ℕ

abbrev pub query_state : {L : Type 0} → PostState → Tables L → QueryState L
query_state post t =
    record {
      post = post;
      log = t.log.now;
      board = t.board.now;
      queue = t.queue.now;
      steps = t.steps.now;
    }

abbrev pub lengths_of : {L : Type 0} → QueryState L → Lengths
lengths_of b = lengths_in b.log b.board b.queue b.steps

module _ {L X : Type 0} (m : Ops L) (q : Query) (b : QueryState X) where
  abbrev pub request_of : Request
  request_of = record { query = q; tables = lengths_of b; score = score_of m b.post.events }

  abbrev pub call_of : Result Answer Fault → List ℕ → Call
  call_of r steps = query_call request_of r steps

  abbrev pub checks_of : List Rule
  checks_of = checks b.post.events request_of

  abbrev pub AnswersQuery : Result Answer Fault → List ℕ → Type 0
  AnswersQuery (Ok x) steps' =
      IsKept checks_of × NamesJourney m b.post.events (is_in_force b.post.marks) q b.steps x steps'
  AnswersQuery (Err f) steps' =
      (steps' ≡ b.steps)
      × ((first_fault checks_of ≡ Some f)
      ⊎ (IsKept checks_of
      × (f ≡ NoJourney)
      × NothingFits b.post.events (is_in_force b.post.marks) q))

  pub record Queries (r : Result Answer Fault) (a : QueryState X) : Type 0 where
    pub answers : AnswersQuery r a.steps
    pub refused : (f : Fault) → first_fault checks_of ≡ Some f → a ≡ b
    pub performs : Performs b.post (call_of r a.steps) a.post
