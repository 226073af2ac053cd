-- When an answer holds, and when a score is the best. Assumes nothing.
-- es, p, q and m are as for journeys and scores: events, what is in force, the query, the measure.
--     Holds m es p q a steps  the answer a names, in front of the step table, a journey that fits;
--                             its verdict is that journey's; it tells the reads that are due; and
--                             behind the journey every slot is 77,777
--     IsBestIfAny m es p q o  o is the best score of the journeys that fit, none where nothing fits
use Rattle.std.specs.Prelude.{◌≡◌, ℕ, ◌≤◌, Bool, true, List, length, drop, Option, MatchOption, ◌==◌}
use Rattle.std.specs.List.{list_all}
use Rattle.records.specs.declared.event.Event.{Event}
use Rattle.measures.specs.Measures.{Ops, Score}
use Rattle.journeys.specs.declared.query.Query.{Query}
use Rattle.journeys.specs.Best.{IsBest, NothingFits}
use Rattle.journeys.specs.Journeys.{Fits}
use Rattle.journeys.specs.Verdicts.{verdict_of}
use Rattle.journeys.specs.declared.answer.Answer.{Answer}
use Rattle.journeys.specs.Answers.{named_steps}
use Rattle.search.specs.Searches.{reads_of}

pub record Holds
    {L : Type 0} (m : Ops L) (es : List Event) (p : ℕ → Bool) (q : Query) (a : Answer)
    (steps : List ℕ)
    : Type 0 where
  pub fits : Fits es p q (named_steps a steps)
  pub verdict : a.verdict ≡ verdict_of m es (named_steps a steps)
  pub room : a.steps ≤ length steps
  pub reads : a.reads ≡ reads_of es q.close
  pub rest : list_all (λ step. step == 77777) (drop a.steps steps) ≡ true

abbrev pub IsBestIfAny :
    {L : Type 0} → Ops L → List Event → (ℕ → Bool) → Query → Option Score → Type 0
IsBestIfAny m es p q o = MatchOption o (NothingFits es p q) (IsBest m es p q)
