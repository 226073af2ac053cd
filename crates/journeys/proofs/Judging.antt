-- What the judge has at hand of a list of numbers is what the definitions say of it.
use Rattle.std.proofs.Common.{◌≡◌, ℕ, ◌-◌, ◌<◌, ◌≤◌, Bool, List, [], ◌∷◌, length, get_or, Some, sym, refl, ap, ◌∙◌, subst, arith}
use Rattle.std.proofs.lemmas.Option.{get_or_from_slice_get, slice_get_within}
use Rattle.std.specs.List.{slice_get}
use Rattle.records.specs.declared.event.Event.{Event}
use Rattle.measures.specs.Measures.{Ops, Score}
use Rattle.journeys.specs.declared.judgment.Totals.{Totals}
use Rattle.journeys.specs.declared.judgment.Verdict.{Verdict}
use Rattle.journeys.specs.declared.query.Query.{Query}
use Rattle.journeys.specs.Formulas.{along, label_of, score_of}
use Rattle.journeys.specs.Journeys.{AllNeighbours, Fits, Link, beginning, end_of, ending, last_number, last_number_from, first_number, event_numbered, rides, riding, starts_at}
use Rattle.journeys.proofs.Spans.{ending-sum}
use Rattle.journeys.specs.Verdicts.{MeetsQuery, IsChain, totals_of, verdict_of}

-- the ends of a list by their places
first_place : (js : List ℕ) → first_number js ≡ get_or js 0 0
first_place [] = refl
first_place (j ∷ js) = refl

final_from_place : (j : ℕ) (js : List ℕ) → last_number_from j js ≡ get_or (j ∷ js) (length js) 0
final_from_place j [] = refl
final_from_place j (k ∷ ks) = final_from_place k ks

final_place : (js : List ℕ) → 0 < length js → last_number js ≡ get_or js (length js - 1) 0
final_place [] h = absurd (omega arith)
final_place (j ∷ js) h = let e : length (j ∷ js) - 1 ≡ length js = omega arith in final_from_place j js ∙ ap (λ n. get_or (j ∷ js) n 0) (sym e)

chain_riding : (es : List Event) (js : List ℕ) → 0 < length js → AllNeighbours (Link es) js → riding es js ≤ ending es js
chain_riding es [] h c = absurd (omega arith)
chain_riding es (j ∷ js) h c = omega (arith, ending-sum es j js c)

verdict : ℕ → ℕ → ℕ → ℕ → Score → Verdict
verdict b f r n s = record { begin = b; end = f; riding = r; rides = n; score = s }

same_verdict : (b b' f f' r r' n n' : ℕ) (s s' : Score) → b ≡ b' → f ≡ f' → r ≡ r' → n ≡ n' → s ≡ s' → verdict b f r n s ≡ verdict b' f' r' n' s'
same_verdict b b' f f' r r' n n' s s' hb hf hr hn hs = cc

-- the judge's last test, on the two ends and the totals that it has at hand
module _ (es : List Event) (p : ℕ → Bool) (q : Query) (js : List ℕ) (d e : Event) (t : Totals) (i j : ℕ) (hi : slice_get js 0 ≡ Some i) (hj : slice_get js (length js - 1) ≡ Some j) (hd : d ≡ event_numbered es i) (he : e ≡ event_numbered es j) (ht : t ≡ totals_of es js) where
  some : 0 < length js
  some = slice_get_within js 0 i hi

  begins : d ≡ event_numbered es (first_number js)
  begins = hd ∙ ap (event_numbered es) (sym (first_place js ∙ get_or_from_slice_get js 0 i 0 hi))

  ends : e ≡ event_numbered es (last_number js)
  ends = he ∙ ap (event_numbered es) (sym (final_place js some ∙ get_or_from_slice_get js (length js - 1) j 0 hj))

  asked_here : MeetsQuery q (event_numbered es (first_number js)) (event_numbered es (last_number js)) (totals_of es js) → MeetsQuery q d e t
  asked_here a =
      subst (λ x. MeetsQuery q x e t) (sym begins) (subst (λ x. MeetsQuery q (event_numbered es (first_number js)) x t) (sym ends) (subst (MeetsQuery q (event_numbered es (first_number js)) (event_numbered es (last_number js))) (sym ht) a))

  here_asked : MeetsQuery q d e t → MeetsQuery q (event_numbered es (first_number js)) (event_numbered es (last_number js)) (totals_of es js)
  here_asked a =
      subst (MeetsQuery q (event_numbered es (first_number js)) (event_numbered es (last_number js))) ht (subst (λ x. MeetsQuery q (event_numbered es (first_number js)) x t) ends (subst (λ x. MeetsQuery q x e t) begins a))

  pub fits_asked : Fits es p q js → MeetsQuery q d e t
  fits_asked f =
      let j = f.journey in
      asked_here (j.ridden, j.called, j.departs, j.arrives, f.opens, f.closes)

  pub asked_fits : IsChain es p js → MeetsQuery q d e t → Fits es p q js
  asked_fits c b =
      let a = here_asked b in
      record {
        journey =
            record {
              known = c.known;
              rising = c.rising;
              linked = c.linked;
              ridden = a.0;
              called = a.1;
              departs = a.2;
              arrives = a.3;
            };
        opens = a.4;
        closes = a.5;
      }

  pub riding_below_close : IsChain es p js → MeetsQuery q d e t → t.riding ≤ q.close
  riding_below_close c a = omega (arith, ap (λ x. x.riding) ht, chain_riding es js some c.linked, (here_asked a).5)

  pub verdict_is : {L : Type 0} (m : Ops L) (b f : ℕ) (l : L) (s : Score) → b ≡ starts_at d → f ≡ end_of e → l ≡ along m es (m.begin b) js → s ≡ m.settle l f → ◌≡◌ {A = Verdict} (record { begin = b; end = f; riding = t.riding; rides = t.rides; score = s }) (verdict_of m es js)
  unfolding verdict
  verdict_is m b f l s hb hf hl hs =
      let b' = hb ∙ ap starts_at begins in
      let f' = hf ∙ ap end_of ends in
      let l' = hl ∙ ap (λ x. along m es (m.begin x) js) b' in
      same_verdict b (beginning es js) f (ending es js) t.riding (riding es js) t.rides (rides es js) s (score_of m es js)
      b' f' (ap (λ x. x.riding) ht) (ap (λ x. x.rides) ht)
      (hs ∙ ap (λ x. m.settle x f) l' ∙ ap (m.settle (label_of m es js)) f')
