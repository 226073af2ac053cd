-- What a search finds over a step table full of nonsense holds.
use Rattle.std.proofs.Common.{◌≡◌, ℕ, zero, suc, ◌-◌, Bool, true, List, length, min, drop, replicate, Some, None, Option, refl, ap, subst, ◌∙◌, ◌==◌, arith}
use Rattle.std.proofs.lemmas.List.{drop-replicate, length-take}
use Rattle.std.specs.List.{list_all}
use Rattle.records.specs.declared.event.Event.{Event}
use Rattle.measures.specs.Measures.{Ops}
use Rattle.journeys.specs.declared.query.Query.{Query}
use Rattle.journeys.specs.declared.answer.Answer.{Answer}
use Rattle.search.specs.Searches.{FindsBest, NamesJourney}
use Rattle.trial_search.specs.Holding.{Holds}

abbrev nonsense : ℕ → Bool
nonsense step = step == 77777

all_nonsense : (n : ℕ) → list_all nonsense (replicate n 77777) ≡ true
all_nonsense zero = refl
all_nonsense (suc n) = all_nonsense n

nonsense_behind : (k n : ℕ) (steps : List ℕ) → steps ≡ replicate n 77777 → list_all nonsense (drop k steps) ≡ true
nonsense_behind k n steps h = ap (λ xs. list_all nonsense (drop k xs)) h ∙ ap (list_all nonsense) (drop-replicate k n 77777) ∙ all_nonsense (n - k)

named_holds : {L : Type 0} (m : Ops L) (es : List Event) (p : ℕ → Bool) (q : Query) (n : ℕ) (steps : List ℕ) (a : Answer) (steps' : List ℕ)
    → steps ≡ replicate n 77777 → NamesJourney m es p q steps a steps' → Holds m es p q a steps'
named_holds m es p q n steps a steps' h named =
    let taken : a.steps ≡ min a.steps (length steps') = ap (λ x. x.steps) named.answer ∙ length-take a.steps steps' in
    record {
      fits = named.fits;
      verdict = ap (λ x. x.verdict) named.answer;
      room = omega (arith, taken);
      reads = ap (λ x. x.reads) named.answer;
      rest = ap (list_all nonsense) named.rest ∙ nonsense_behind a.steps n steps h;
    }

-- a journey that is found, read at the day's own events, marks and steps
pub found_holds : {L : Type 0} (m : Ops L) (es fs : List Event) (p r : ℕ → Bool) (q : Query) (n : ℕ) (steps : List ℕ) (o : Option Answer) (a : Answer) (steps' there : List ℕ)
    → steps ≡ replicate n 77777 → FindsBest m es p q steps o steps' → o ≡ Some a → es ≡ fs → p ≡ r → steps' ≡ there → Holds m fs r q a there
found_holds m es fs p r q n steps o a steps' there h found is same marks written =
    let named = subst (λ x. FindsBest m es p q steps x steps') is found in
    subst (λ xs. Holds m fs r q a xs) written (subst (λ x. Holds m fs x q a steps') marks (subst (λ x. Holds m x p q a steps') same (named_holds m es p q n steps a steps' h named)))

-- where nothing fits, the table is as it was
pub none_behind : {L : Type 0} (m : Ops L) (es : List Event) (p : ℕ → Bool) (q : Query) (n : ℕ) (steps : List ℕ) (o : Option Answer) (steps' : List ℕ)
    → steps ≡ replicate n 77777 → FindsBest m es p q steps o steps' → o ≡ None → list_all nonsense steps' ≡ true
none_behind m es p q n steps o steps' h found is =
    let kept = subst (λ x. FindsBest m es p q steps x steps') is found in
    nonsense_behind 0 n steps' (kept.1 ∙ h)
