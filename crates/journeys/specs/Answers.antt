-- What is answered to a query. Assumes nothing.
--     answer_of m es js n  the answer that is true of the journey js after n reads
--     named_steps a steps  the journey that the answer a names: the first a.steps numbers of the step table
use Rattle.std.specs.Prelude.{ℕ, List, length, take}
use Rattle.records.specs.declared.event.Event.{Event}
use Rattle.measures.specs.Measures.{Ops}
use Rattle.journeys.specs.declared.answer.Answer.{Answer}
use Rattle.journeys.specs.Verdicts.{verdict_of}

abbrev pub answer_of : {L : Type 0} → Ops L → List Event → List ℕ → ℕ → Answer
answer_of m es js n = record { verdict = verdict_of m es js; steps = length js; reads = n }

abbrev pub named_steps : Answer → List ℕ → List ℕ
named_steps a steps = take a.steps steps
