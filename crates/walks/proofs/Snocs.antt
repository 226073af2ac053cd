-- Lists of numbers that grow at their end.
use Rattle.std.proofs.Common.{◌≡◌, ℕ, ◌+◌, ◌<◌, List, [], ◌∷◌, ◌++◌, length, refl, arith}
use Rattle.records.specs.declared.event.Event.{Event}
use Rattle.measures.specs.Measures.{Ops}
use Rattle.journeys.specs.Formulas.{along, through}
use Rattle.journeys.specs.Journeys.{AllNeighbours, last_number, last_number_from, first_number, event_numbered, total}

final_from_snoc : (j : ℕ) (js : List ℕ) (i : ℕ) → last_number_from j (js ++ i ∷ []) ≡ i
final_from_snoc j [] i = refl
final_from_snoc j (k ∷ ks) i = final_from_snoc k ks i

pub final_snoc : (js : List ℕ) (i : ℕ) → last_number (js ++ i ∷ []) ≡ i
final_snoc [] i = refl
final_snoc (j ∷ js) i = final_from_snoc j js i

pub first_snoc : (js : List ℕ) (i : ℕ) → 0 < length js → first_number (js ++ i ∷ []) ≡ first_number js
first_snoc [] i h = absurd (omega arith)
first_snoc (j ∷ js) i h = refl

pub total_snoc : (f : ℕ → ℕ) (js : List ℕ) (i : ℕ) → total f (js ++ i ∷ []) ≡ total f js + f i
total_snoc f [] i = omega arith
total_snoc f (j ∷ js) i = omega (arith, total_snoc f js i)

pub along_snoc : {L : Type 0} (m : Ops L) (es : List Event) (l : L) (js : List ℕ) (i : ℕ) → along m es l (js ++ i ∷ []) ≡ through m (event_numbered es i) (along m es l js)
along_snoc m es l [] i = refl
along_snoc m es l (j ∷ js) i = along_snoc m es (through m (event_numbered es j) l) js i

pub chained_snoc : (R : ℕ → ℕ → Type 0) (js : List ℕ) (i : ℕ) → AllNeighbours R js → (0 < length js → R (last_number js) i) → AllNeighbours R (js ++ i ∷ [])
chained_snoc R [] i c h = (tt, tt)
chained_snoc R (j ∷ []) i c h = (h (omega arith), (tt, tt))
chained_snoc R (j ∷ k ∷ ks) i c h = (c.0, chained_snoc R (k ∷ ks) i c.1 (λ _. h (omega arith)))
