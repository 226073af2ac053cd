-- How a journey is scored under any measure, and that each measure has its plain formula. Assumes nothing.
-- es, p, q and js are as for journeys; m is a measure by its four functions.
--     through m e l    the label l taken through the event e: a ride is ridden, an opening leaves it as it is
--     along m es l js  the label l taken through the events of js, one after another
--     label_of m es js  the label of a journey: that of setting out in its first minute, taken along its events
--     score_of m es js  the score of a journey: its label, settled in the minute in which it is over
--     figures_of es js  what a journey is measured by: when it begins and ends, its riding and its number of rides
--     ScoresBy m f     for every timetable's list of events, what is in force, query and journey, the
--                      score under m is the formula f of the journey's figures
--     MeasuresArePlain  for each criterion k, the measure that k stands for has the formula of k
use Rattle.std.specs.Prelude.{◌≡◌, ℕ, Bool, List, [], ◌∷◌}
use Rattle.records.specs.declared.event.Event.{Event}
use Rattle.records.specs.declared.event.Event.TheVariants.{Opening, Ride}
use Rattle.records.specs.Events.{IsTimetable}
use Rattle.measures.specs.Measures.{Ops, Score}
use Rattle.measures.specs.declared.criterion.Criterion.{Criterion}
use Rattle.measures.specs.Criteria.{Figures, formula, ops}
use Rattle.journeys.specs.declared.query.Query.{Query}
use Rattle.journeys.specs.Journeys.{Journey, beginning, ending, event_numbered, rides, riding}

abbrev pub through : {L : Type 0} → Ops L → Event → L → L
through m (Opening o) l = l
through m (Ride r) l = m.ride l r.duration

abbrev pub along : {L : Type 0} → Ops L → List Event → L → List ℕ → L
along m es l [] = l
along m es l (j ∷ js) = along m es (through m (event_numbered es j) l) js

abbrev pub label_of : {L : Type 0} → Ops L → List Event → List ℕ → L
label_of m es js = along m es (m.begin (beginning es js)) js

abbrev pub score_of : {L : Type 0} → Ops L → List Event → List ℕ → Score
score_of m es js = m.settle (label_of m es js) (ending es js)

abbrev pub figures_of : List Event → List ℕ → Figures
figures_of es js =
    record { begin = beginning es js; end = ending es js; riding = riding es js; rides = rides es js }

abbrev pub ScoresBy : {L : Type 0} → Ops L → (Figures → Score) → Type 0
ScoresBy m f =
    (es : List Event) (p : ℕ → Bool) (q : Query) (js : List ℕ)
    → IsTimetable es
    → Journey es p q js
    → score_of m es js ≡ f (figures_of es js)

abbrev pub MeasuresArePlain : Type 0
MeasuresArePlain = (k : Criterion) → ScoresBy (ops k) (formula k)
