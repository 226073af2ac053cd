-- The calls of a post with their answers, and which answers are right. Assumes nothing.
-- es is the source's list of events.
--     Notice               a withdrawal or a reinstatement
--     notice_of out        a withdrawal where out is true, else a reinstatement
--     out_after k          whether an event is out of force after the notice k
--     Request              what a query asks: the query, the lengths of its tables, and how its measure scores a
--                          list of event numbers
--     Call                 a call with its answer: a notice about an event; a tally; a query, with the step table
--                          that it left
--     notice_in c          the event of the notice that c gave, and the notice; none where it gave none, as where it was refused
--     Withdrawals          which events are out of force, and how many they are
--     has_effect k out     the notice k has an effect: a withdrawal where out is false, a reinstatement where it is true
--     notice_rules n out k e  the rules that a notice k about event e must obey where there are n events and out says
--                          whether e is out of force: e is one of them, and the notice has an effect
--     checks es i          the rules that a query i must obey before it is searched for, in the order of testing:
--                          those of the query, then those of the tables
--     IsRightAnswer rules es p q score r steps  the answer r to the query q is right where these rules come before the
--                          search, p says which events are in force, and score how a list of event numbers is scored:
--                          names, named_so  it names a journey exactly where the rules are kept and some journey
--                                           fits; the one named fits, has the score given, and none that fits
--                                           scores lower
--                          none, none_so    "no journey" is the answer exactly where they are kept and none fits
--                          refused          else the answer is the first broken rule's fault
--     IsRight es w c       the call c has the right answer where w says what is out of force: a notice is accepted, or
--                          refused by the first rule that it breaks; a tally is the number of events out of force; the
--                          answer to a query is right for the events that are in force
use Rattle.std.specs.Prelude.{◌≡◌, ℕ, Bool, true, false, not, List, [], ◌∷◌, ◌++◌, length, Some, None, Ok, Err, Option, Result, nat_lt}
use Rattle.faults.specs.declared.Fault.{Fault}
use Rattle.faults.specs.declared.Fault.TheVariants.{NoJourney, NoticeWithoutEffect, UnknownEvent}
use Rattle.faults.specs.Rules.{IsKept, Rule, first_fault, ruling}
use Rattle.records.specs.declared.event.Event.{Event}
use Rattle.measures.specs.Measures.{Score, ◌≼◌}
use Rattle.journeys.specs.declared.query.Query.{Query}
use Rattle.journeys.specs.Best.{NothingFits}
use Rattle.journeys.specs.Journeys.{Fits}
use Rattle.journeys.specs.Queries.{query_rules}
use Rattle.journeys.specs.declared.answer.Answer.{Answer}
use Rattle.search.specs.Lengths.{Lengths, table_rules}
use Rattle.journeys.specs.Answers.{named_steps}

pub data Notice : Type 0 where
  withdrawal : Notice
  reinstatement : Notice

abbrev pub notice_of : Bool → Notice
notice_of true = withdrawal
notice_of false = reinstatement

abbrev pub out_after : Notice → Bool
out_after withdrawal = true
out_after reinstatement = false

pub record Request : Type 0 where
  pub query : Query
  pub tables : Lengths
  pub score : List ℕ → Score

pub data Call : Type 0 where
  notice_call : Notice → ℕ → Result (Unit {0}) Fault → Call
  tally_call : ℕ → Call
  query_call : Request → Result Answer Fault → List ℕ → Call

abbrev pub notice_in : Call → Option (ℕ × Notice)
notice_in (notice_call k e (Ok _)) = Some (e, k)
notice_in _ = None

pub record Withdrawals : Type 0 where
  pub is_out : ℕ → Bool
  pub count : ℕ

abbrev pub has_effect : Notice → Bool → Bool
has_effect withdrawal out = not out
has_effect reinstatement out = out

abbrev pub notice_rules : ℕ → Bool → Notice → ℕ → List Rule
notice_rules n out k e =
    (nat_lt e n, UnknownEvent e) ∷ (has_effect k out, NoticeWithoutEffect e) ∷ []

abbrev pub checks : List Event → Request → List Rule
checks es i = query_rules i.query ++ table_rules (length es) i.tables

pub record IsRightAnswer
    (rules : List Rule) (es : List Event) (p : ℕ → Bool) (q : Query) (score : List ℕ → Score)
    (r : Result Answer Fault) (steps : List ℕ)
    : Type 0 where
  pub names :
      (a : Answer)
      → r ≡ Ok a
      → IsKept rules
      × Fits es p q (named_steps a steps)
      × (a.verdict.score ≡ score (named_steps a steps))
      × ((js : List ℕ) → Fits es p q js → a.verdict.score ≼ score js)
  pub named_so : IsKept rules → (js : List ℕ) → Fits es p q js → (a : Answer) × (r ≡ Ok a)
  pub none : r ≡ Err NoJourney → IsKept rules × NothingFits es p q
  pub none_so : IsKept rules → NothingFits es p q → r ≡ Err NoJourney
  pub refused : (f : Fault) → first_fault rules ≡ Some f → r ≡ Err f

abbrev pub IsRight : List Event → Withdrawals → Call → Type 0
IsRight es w (notice_call k e r) = r ≡ ruling (notice_rules (length es) (w.is_out e) k e) tt
IsRight es w (tally_call t) = t ≡ w.count
IsRight es w (query_call i r steps) =
    IsRightAnswer (checks es i) es (λ n. not (w.is_out n)) i.query i.score r steps
