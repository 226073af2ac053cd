-- Reading a source to its end, and again.
use Rattle.std.proofs.Common.{◌≡◌, ℕ, ◌+◌, ◌-◌, ◌<◌, ◌≤◌, min, Bool, cond, List, [], ◌∷◌, ◌++◌, map, length, get_or, take, Some, None, count_by, Option, sym, refl, ap, ◌∙◌, ⊎_elim, arith}
use Rattle.std.proofs.lemmas.List.{length-take, take_all}
use Rattle.std.proofs.lemmas.List.Sums.{sum_by_more, count_by-le-length}
use Rattle.std.proofs.lemmas.Option.{slice_get-get_or, slice_get_past, slice_get_within}
use Rattle.std.proofs.lemmas.Bool.{cases_lt}
use Rattle.std.specs.List.{range_with_len, slice_get}
use Rattle.records.specs.declared.event.Event.{Event}
use Rattle.records.specs.Limits.{most_events}
use Rattle.sources.specs.declared.reading.Counts.{Counts}
use Rattle.records.specs.Events.{is_opening, is_ride}
use Rattle.sources.specs.Sources.{Call, reads, rewinds, Calls, Reading, ReadThrough, Repeats}

-- the events of the list es before the place p are counted
pub record Midway (es : List Event) (r : Counts) (es' : List Event) (p : ℕ) : Type 0 where
  pub openings : r.openings ≡ count_by is_opening (take p es)
  pub rides : r.rides ≡ count_by is_ride (take p es)
  pub same : es' ≡ es

-- a read that answers an event stands before the end
pub before_end : (es : List Event) (p : ℕ) (e : Event) → Some e ≡ slice_get es p → p < length es
before_end es p e h = slice_get_within es p e (sym h)

-- and one that answers none, at the end
pub at_end : (es : List Event) (p : ℕ) (d : Event) → None ≡ slice_get es p → length es ≤ p
at_end es p d h =
    ⊎_elim (λ l. let here = slice_get-get_or es p d l in let z : ◌≡◌ {A = ℕ} 0 1 = cc in absurd (omega arith)) (λ l. l) (cases_lt p (length es))

counted_more : (p : Event → Bool) (es : List Event) (i : ℕ) (e : Event) → Some e ≡ slice_get es i → count_by p (take (i + 1) es) ≡ count_by p (take i es) + cond (p e) 1 0
counted_more p es i e h =
    let l = before_end es i e h in
    let here = slice_get-get_or es i e l in
    let is : get_or es i e ≡ e = cc in
    sum_by_more (λ x. cond (p x) 1 0) es i e l ∙ ap (λ x. count_by p (take i es) + cond (p x) 1 0) is

module _ (es : List Event) (r : Counts) (ns : List Event) (p : ℕ) (ns' : List Event) (q : ℕ) (m : Midway es r ns p) where
  pub midway_more : (e : Event) (r' : Counts) → Reading ns p (Some e) ns' q → r'.openings ≡ r.openings + cond (is_opening e) 1 0
      → r'.rides ≡ r.rides + cond (is_ride e) 1 0 → Midway es r' ns' q
  midway_more e r' h o i =
      let item : Some e ≡ slice_get es p = h.item ∙ ap (λ l. slice_get l p) m.same in
      let next : p + 1 ≡ q = omega (arith, before_end es p e item, h.step, ap length m.same) in
      record {
        openings = o ∙ ap (λ n. n + cond (is_opening e) 1 0) m.openings ∙ sym (counted_more is_opening es p e item) ∙ ap (λ n. count_by is_opening (take n es)) next;
        rides = i ∙ ap (λ n. n + cond (is_ride e) 1 0) m.rides ∙ sym (counted_more is_ride es p e item) ∙ ap (λ n. count_by is_ride (take n es)) next;
        same = h.same ∙ m.same;
      }

  pub midway_end : (d : Event) → p ≤ length ns → Reading ns p None ns' q → ReadThrough es r ns' q
  midway_end d w h =
      let past : length es ≤ p = omega (arith, at_end ns p d h.item, ap length m.same) in
      let whole : take p es ≡ es = take_all p es past in
      record {
        openings = m.openings ∙ ap (count_by is_opening) whole;
        rides = m.rides ∙ ap (count_by is_ride) whole;
        same = h.same ∙ m.same;
        end = omega (arith, h.step, past, w, ap length m.same);
      }

  pub midway_few : (e : Event) → Some e ≡ slice_get ns p → length ns ≤ most_events → (r.openings < most_events) × (r.rides < most_events)
  midway_few e item few =
      let l : p < length es = omega (arith, before_end ns p e item, ap length m.same) in
      let n = length-take p es in (
        omega (arith, m.openings, count_by-le-length is_opening (take p es), ap length m.same),
        omega (arith, m.rides, count_by-le-length is_ride (take p es), ap length m.same),
      )

pub reading_falls : (es : List Event) (p : ℕ) (e : Event) (es' : List Event) (q : ℕ) → Reading es p (Some e) es' q → length es' - q < length es - p
reading_falls es p e es' q h = omega (arith, before_end es p e h.item, h.step, ap length h.same)

slice_get-min : (es : List Event) (p q : ℕ) → p ≡ min q (length es) → slice_get es p ≡ slice_get es q
slice_get-min es p q m =
    ⊎_elim (λ l. let e : p ≡ q = omega arith in ap (slice_get es) e)
    (λ l. slice_get_past es p (omega arith) ∙ sym (slice_get_past es q l)) (cases_lt q (length es))

-- reads from place q on, where a place behind the end is the end
reads_from : (answers : List (Option Event)) (es ns : List Event) (p q : ℕ) (es' : List Event) (p' : ℕ) → ns ≡ es → p ≡ min q (length es)
    → Calls ns p (map reads answers) es' p' → answers ≡ map (slice_get es) (range_with_len q (length answers))
reads_from [] es ns p q es' p' s m k = refl
reads_from (a ∷ answers) es ns p q es' p' s m k =
    let h = k.2 in
    let here : a ≡ slice_get es q = h.item ∙ ap (λ l. slice_get l p) s ∙ slice_get-min es p q m in
    let rest = reads_from answers es k.0 k.1 (q + 1) es' p' (h.same ∙ s) (omega (arith, h.step, m, ap length s)) k.3 in
    cc

rewound : (before : List Call) (answers : List (Option Event)) (es ns : List Event) (p : ℕ) (es' : List Event) (p' : ℕ) → ns ≡ es
    → Calls ns p (before ++ rewinds ∷ map reads answers) es' p' → answers ≡ map (slice_get es) (range_with_len 0 (length answers))
rewound [] answers es ns p es' p' s k =
    reads_from answers es k.0 k.1 0 es' p' (k.2.same ∙ s) (omega (arith, k.2.start)) k.3
rewound (reads r ∷ before) answers es ns p es' p' s k = rewound before answers es k.0 k.1 es' p' (k.2.same ∙ s) k.3
rewound (rewinds ∷ before) answers es ns p es' p' s k = rewound before answers es k.0 k.1 es' p' (k.2.same ∙ s) k.3

pub repeats : (es : List Event) (p : ℕ) → Repeats es p
repeats es p before answers es' p' k = rewound before answers es es p es' p' refl k
