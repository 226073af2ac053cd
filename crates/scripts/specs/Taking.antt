-- What a line of a script does to a day. Assumes nothing.
--     Withdraws n ms ms'        the marks ms have become ms': event n is out of force, every other as before, and the marks
--                               are as many as before, or reach up to n
--     TakesLine line es ms r es' ms'  the answer r on a line, and what it makes of the events es and the marks ms: a new day has
--                               neither; an event comes behind the others; a withdrawal marks its event; a question is
--                               given back. Where there is no memory for an event or a mark, everything is as before
use Rattle.std.specs.Prelude.{◌≡◌, ℕ, ◌+◌, max, Bool, not, ◌&&◌, List, [], ◌∷◌, ◌++◌, length, Some, None, Ok, Err, Option, Result, ◌==◌}
use Rattle.records.specs.declared.event.Event.{Event}
use Rattle.journeys.specs.declared.query.Query.{Query}
use Rattle.journeys.specs.Marks.{is_in_force}
use Rattle.scripts.specs.declared.line.DayLine.{DayLine}
use Rattle.scripts.specs.declared.line.DayLine.TheVariants.{New, Add, Withdraw, Ask}

abbrev pub Withdraws : ℕ → List Bool → List Bool → Type 0
Withdraws n ms ms' =
    ((j : ℕ) → is_in_force ms' j ≡ (is_in_force ms j && not (j == n))) × (length ms' ≡ max (length ms) (n + 1))

abbrev pub TakesLine : {E : Type 0} → DayLine → List Event → List Bool → Result (Option Query) E → List Event → List Bool → Type 0
TakesLine New es ms (Ok a) es' ms' = (a ≡ None) × (es' ≡ []) × (ms' ≡ [])
TakesLine (Add e) es ms (Ok a) es' ms' = (a ≡ None) × (es' ≡ es ++ e ∷ []) × (ms' ≡ ms)
TakesLine (Withdraw n) es ms (Ok a) es' ms' = (a ≡ None) × (es' ≡ es) × Withdraws n ms ms'
TakesLine (Ask q) es ms (Ok a) es' ms' = (a ≡ Some q) × (es' ≡ es) × (ms' ≡ ms)
TakesLine (Add e) es ms (Err _) es' ms' = (es' ≡ es) × (ms' ≡ ms)
TakesLine (Withdraw n) es ms (Err _) es' ms' = (es' ≡ es) × (ms' ≡ ms)
TakesLine New es ms (Err _) es' ms' = ⊥
TakesLine (Ask q) es ms (Err _) es' ms' = ⊥
