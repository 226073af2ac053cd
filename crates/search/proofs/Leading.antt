-- Who leads, from one event to the next.
use Rattle.std.proofs.Common.{◌≡◌, ℕ, ◌+◌, ◌<◌, ◌≤◌, List, Some, Option, sym, ap, ◌∙◌, subst, ⊎_elim, arith}
use Rattle.std.proofs.lemmas.Int.{ints}
use Rattle.std.proofs.lemmas.Bool.{cases_lt}
use Rattle.std.proofs.lemmas.Option.{same_Some}
use Rattle.measures.specs.Measures.{Ops, Score, ◌≼◌}
use Rattle.journeys.specs.declared.query.Query.{Query}
use Rattle.walks.specs.Logs.{IsAhead}
use Rattle.walks.proofs.Optimal.{≼_trans}
use Rattle.scans.specs.declared.entry.Entry.{Entry}
use Rattle.search.specs.declared.lead.Leader.{Leader}
use Rattle.scans.specs.Boards.{entry_for}
use Rattle.search.specs.Readings.{Ends, Leads, entry_outcome}

≼-total : (s t : Score) → (s ≼ t → ⊥) → t ≼ s
≼-total s t h = grind (arith, ints, h)

≼-itself : (s : Score) → s ≼ s
≼-itself s = grind (arith, ints)

module _ {L : Type 0} (m : Ops L) (q : Query) (log : List (Option (Entry L))) (i : ℕ) where
  -- the entry for event i, where an event before i + 1 has one
  here : (j : ℕ) (e : Entry L) (x : Option (Entry L)) → i ≤ j → j < i + 1 → entry_for log i q.call ≡ x → entry_for log j q.call ≡ Some e → x ≡ Some e
  here j e x l u h k = let s : i ≡ j = omega arith in sym h ∙ ap (λ n. entry_for log n q.call) s ∙ k

  module _ (x : Leader L) (at : x.event ≡ i) (is : entry_for log i q.call ≡ Some x.entry) (ends : Ends q x.entry) where
    -- one that is not lower changes nothing
    pub leads_kept : (y : Leader L) → IsAhead (entry_outcome m y.event y.entry) (entry_outcome m x.event x.entry) → Leads m q log i (Some y) → Leads m q log (i + 1) (Some y)
    leads_kept y low h = (
      omega (arith, h.0),
      h.1,
      h.2,
      λ j d u k r.
          ⊎_elim (λ l. h.3 j d l k r)
          (λ l. subst (λ z. IsAhead (entry_outcome m y.event y.entry) (entry_outcome m j z)) (same_Some _ _ (here j d (Some x.entry) l u is k)) low) (cases_lt j i),
    )

    -- one that is not above all before it leads
    leads_new : ((j : ℕ) (d : Entry L) → j < i → entry_for log j q.call ≡ Some d → Ends q d → IsAhead (entry_outcome m x.event x.entry) (entry_outcome m j d)) → Leads m q log (i + 1) (Some x)
    leads_new low = (
      omega arith,
      ap (λ n. entry_for log n q.call) at ∙ is,
      ends,
      λ j d u k r.
          ⊎_elim (λ l. low j d l k r)
          (λ l. subst (λ z. IsAhead (entry_outcome m x.event x.entry) (entry_outcome m j z)) (same_Some _ _ (here j d (Some x.entry) l u is k)) (≼-itself (entry_outcome m x.event x.entry).0)) (cases_lt j i),
    )

    pub leads_lower : (y : Leader L) → (IsAhead (entry_outcome m y.event y.entry) (entry_outcome m x.event x.entry) → ⊥) → Leads m q log i (Some y) → Leads m q log (i + 1) (Some x)
    leads_lower y n h =
        leads_new (λ j d l k r. ≼_trans _ _ _ (≼-total (entry_outcome m y.event y.entry).0 (entry_outcome m x.event x.entry).0 n) (h.3 j d l k r))
