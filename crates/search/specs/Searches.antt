-- What a search finds. Assumes nothing.
-- es, p, q and m are as for journeys and scores: events, what is in force, the query, the measure. steps and steps' are
-- the step table before and after, and `..` stands for m es p q steps.
--     reads_of es c        how many events are read: up to and including the first that is later than c, else all
--     NamesJourney .. a steps'  the answer a names a journey: the journey fits; no journey that fits scores lower; what
--                          a says is true of it; and behind it the step table is unchanged
--     FindsBest .. o steps'  what a search finds, by its answer o: a journey, or none because none fits, and then
--                          the step table is unchanged
use Rattle.std.specs.Prelude.{◌≡◌, ℕ, ◌+◌, min, Bool, List, length, drop, Some, None, Option}
use Rattle.records.specs.declared.event.Event.{Event}
use Rattle.measures.specs.Measures.{Ops}
use Rattle.journeys.specs.declared.query.Query.{Query}
use Rattle.journeys.specs.declared.answer.Answer.{Answer}
use Rattle.journeys.specs.Answers.{answer_of, named_steps}
use Rattle.journeys.specs.Best.{IsLowerBound, NothingFits}
use Rattle.journeys.specs.Journeys.{Fits}
use Rattle.walks.specs.Logs.{first_late}

abbrev pub reads_of : List Event → ℕ → ℕ
reads_of es c = min (first_late es c + 1) (length es)

pub record NamesJourney {L : Type 0} (m : Ops L) (es : List Event) (p : ℕ → Bool) (q : Query) (steps : List ℕ) (a : Answer) (steps' : List ℕ) : Type 0 where
  pub fits : Fits es p q (named_steps a steps')
  pub least : IsLowerBound m es p q a.verdict.score
  pub answer : a ≡ answer_of m es (named_steps a steps') (reads_of es q.close)
  pub rest : drop a.steps steps' ≡ drop a.steps steps

abbrev pub FindsBest : {L : Type 0} → Ops L → List Event → (ℕ → Bool) → Query → List ℕ → Option Answer → List ℕ → Type 0
FindsBest m es p q steps (Some a) steps' = NamesJourney m es p q steps a steps'
FindsBest m es p q steps None steps' = NothingFits es p q × (steps' ≡ steps)
