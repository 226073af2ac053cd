-- Judging a list of event numbers. Assumes nothing.
--     verdict_of m es js   begin, end, riding, rides and score of a journey
--     IsVerdict m es p q js r  r is the verdict of js where js fits, and none where it does not
--     IsChain es p js      js are rising numbers of events in force, each linked to the next
--     Next es p js         the first of js, if any, is that of an event in force, and the second, if any, is higher and
--                          linked to it
--     totals_of es js      riding, rides and openings of js
--     MeetsQuery q d e t   a chain with these totals, of which d is the first event and e the last, is what q asks for
use Rattle.std.specs.Prelude.{◌≡◌, ℕ, ◌<◌, ◌≤◌, Bool, List, [], ◌∷◌, Option, MatchOption}
use Rattle.std.specs.List.{AllByRecursion}
use Rattle.records.specs.declared.event.Event.{Event}
use Rattle.measures.specs.Measures.{Ops}
use Rattle.journeys.specs.declared.judgment.Totals.{Totals}
use Rattle.journeys.specs.declared.judgment.Verdict.{Verdict}
use Rattle.journeys.specs.declared.query.Query.{Query}
use Rattle.journeys.specs.Formulas.{score_of}
use Rattle.journeys.specs.Journeys.{Before, AllNeighbours, Fits, Link, beginning, end_of, ending, leaves_at, one_if, openings, reaches_at, rides, riding, starts_at, IsKnown}

abbrev pub verdict_of : {L : Type 0} → Ops L → List Event → List ℕ → Verdict
verdict_of m es js =
    record {
      begin = beginning es js;
      end = ending es js;
      riding = riding es js;
      rides = rides es js;
      score = score_of m es js;
    }

abbrev pub IsVerdict : {L : Type 0} → Ops L → List Event → (ℕ → Bool) → Query → List ℕ → Option Verdict → Type 0
IsVerdict m es p q js r = MatchOption r (Fits es p q js → ⊥) (λ v. Fits es p q js × (v ≡ verdict_of m es js))

pub record IsChain (es : List Event) (p : ℕ → Bool) (js : List ℕ) : Type 0 where
  pub known : AllByRecursion (IsKnown es p) js
  pub rising : AllNeighbours ◌<◌ js
  pub linked : AllNeighbours (Link es) js

abbrev pub Next : List Event → (ℕ → Bool) → List ℕ → Type 0
Next es p [] = Unit {0}
Next es p (j ∷ js) = IsKnown es p j × Before (λ i k. (i < k) × Link es i k) j js

abbrev pub totals_of : List Event → List ℕ → Totals
totals_of es js = record { riding = riding es js; rides = rides es js; openings = openings es js }

abbrev pub MeetsQuery : Query → Event → Event → Totals → Type 0
MeetsQuery q d e t =
    (1 ≤ t.rides)
    × (t.openings ≡ one_if q.call)
    × (leaves_at d ≡ q.from)
    × (reaches_at e ≡ q.to)
    × (q.open ≤ starts_at d)
    × (end_of e ≤ q.close)
