-- The best score of the journeys that fit. Assumes nothing.
-- es, p, q and m are as for journeys and scores.
--     IsLowerBound m es p q s  no journey that fits has a score lower than s
--     IsBest m es p q s   s is the score of a journey that fits, and none that fits has a lower one
--     IsOnlyJourney es p q js  js is a journey that fits, and no other fits
--     NothingFits es p q no journey fits
use Rattle.std.specs.Prelude.{◌≡◌, ℕ, Bool, List}
use Rattle.records.specs.declared.event.Event.{Event}
use Rattle.measures.specs.Measures.{Ops, Score, ◌≼◌}
use Rattle.journeys.specs.declared.query.Query.{Query}
use Rattle.journeys.specs.Formulas.{score_of}
use Rattle.journeys.specs.Journeys.{Fits}

abbrev pub IsLowerBound : {L : Type 0} → Ops L → List Event → (ℕ → Bool) → Query → Score → Type 0
IsLowerBound m es p q s = (js : List ℕ) → Fits es p q js → s ≼ score_of m es js

abbrev pub IsBest : {L : Type 0} → Ops L → List Event → (ℕ → Bool) → Query → Score → Type 0
IsBest m es p q s = ((js : List ℕ) × Fits es p q js × (score_of m es js ≡ s)) × IsLowerBound m es p q s

abbrev pub IsOnlyJourney : List Event → (ℕ → Bool) → Query → List ℕ → Type 0
IsOnlyJourney es p q js = Fits es p q js × ((ks : List ℕ) → Fits es p q ks → ks ≡ js)

abbrev pub NothingFits : List Event → (ℕ → Bool) → Query → Type 0
NothingFits es p q = (js : List ℕ) → Fits es p q js → ⊥
