-- What labels carry along is what is told of a journey.
--     Carries m es l js r  r is what the label l has become after the events js: m's label, and what it carries along
--     label_carries        the label of a list of events whose sums stay small carries m's label, and the list's begin,
--                          riding and rides
use Rattle.std.specs.Prelude.{◌≡◌, ℕ, ◌+◌, ◌^◌, ◌<◌, List, [], ◌∷◌, refl}
use Rattle.std.proofs.Common.{ap, ◌∙◌, arith}
use Rattle.records.specs.declared.event.Event.{Event}
use Rattle.records.specs.declared.event.Event.TheVariants.{Opening, Ride}
use Rattle.measures.specs.Measures.{Ops}
use Rattle.journeys.specs.Formulas.{along, label_of, through}
use Rattle.journeys.specs.Journeys.{beginning, minutes, event_numbered, one_if_ride, rides, riding}
use Rattle.search.specs.declared.carried.Carried.{Carried}
use Rattle.search.specs.Carrying.{carrying}

-- what a label carries after one event more, while the sums stay small
record Carries {L : Type 0} (m : Ops L) (es : List Event) (l : Carried L) (js : List ℕ) (r : Carried L) : Type 0 where
  label : r.label ≡ along m es l.label js
  begin : r.begin ≡ l.begin
  riding_is : r.riding ≡ l.riding + riding es js
  rides_is : r.rides ≡ l.rides + rides es js

module _ {L : Type 0} (m : Ops L) (es : List Event) where
  through_carries : (e : Event) (l : Carried L) → l.riding + minutes e < 2 ^ 32 → l.rides + one_if_ride e < 2 ^ 32
      → ((through (carrying m) e l).label ≡ through m e l.label)
      × ((through (carrying m) e l).begin ≡ l.begin)
      × ((through (carrying m) e l).riding ≡ l.riding + minutes e)
      × ((through (carrying m) e l).rides ≡ l.rides + one_if_ride e)
  through_carries (Opening o) l u v = (refl, refl, omega arith, omega arith)
  through_carries (Ride r) l u v = (refl, refl, omega arith, omega arith)

  along_carries : (l : Carried L) (js : List ℕ) → l.riding + riding es js < 2 ^ 32 → l.rides + rides es js < 2 ^ 32 → Carries m es l js (along (carrying m) es l js)
  along_carries l [] u v = record { label = refl; begin = refl; riding_is = omega arith; rides_is = omega arith }
  along_carries l (j ∷ js) u v =
      let e = event_numbered es j in
      let n = through_carries e l (omega arith) (omega arith) in
      let k = through (carrying m) e l in
      let r = along_carries k js (omega (arith, n.2)) (omega (arith, n.3)) in
      record {
        label = r.label ∙ ap (λ x. along m es x js) n.0;
        begin = r.begin ∙ n.1;
        riding_is = omega (arith, r.riding_is, n.2);
        rides_is = omega (arith, r.rides_is, n.3);
      }

  -- a journey's label carries its begin, riding and rides
  pub label_carries : (js : List ℕ) → riding es js < 2 ^ 32 → rides es js < 2 ^ 32
      → ((label_of (carrying m) es js).label ≡ label_of m es js)
      × ((label_of (carrying m) es js).begin ≡ beginning es js)
      × ((label_of (carrying m) es js).riding ≡ riding es js)
      × ((label_of (carrying m) es js).rides ≡ rides es js)
  label_carries js u v =
      let r = along_carries ((carrying m).begin (beginning es js)) js (omega arith) (omega arith) in
      (r.label, r.begin, omega (arith, r.riding_is), omega (arith, r.rides_is))
