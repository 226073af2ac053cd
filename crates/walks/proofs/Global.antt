-- A log that is right at each event is right for whole walks.
use Rattle.std.proofs.Common.{◌≡◌, ℕ, zero, suc, ◌<◌, ◌≤◌, Bool, true, false, ◌||◌, List, [], ◌∷◌, ◌++◌, Some, None, Option, sym, refl, ap, ◌∙◌, subst, arith}
use Rattle.std.proofs.lemmas.Bool.{both_ways}
use Rattle.records.specs.declared.event.Event.{Event}
use Rattle.records.specs.declared.event.Event.TheVariants.{Opening, Ride}
use Rattle.records.specs.Events.{is_opening, IsTimetable}
use Rattle.measures.specs.Measures.{Laws, Ops}
use Rattle.journeys.specs.declared.query.Query.{Query}
use Rattle.journeys.specs.Formulas.{through}
use Rattle.journeys.specs.Journeys.{event_numbered, IsKnown, last_number, Link, reaches_at, ready_at, starts_at}
use Rattle.journeys.proofs.Spans.{known_within}
use Rattle.walks.specs.Logs.{IsCandidate, Covers, Log, LogIsGlobal, Predecessor, Passes, IsRight, IsRightAt, Spells, TracesBack, after, calls, first, fresh, linked, rides, start, then}
use Rattle.walks.specs.Walks.{CanTake, Traveller, Walk, begins, goes_on, traveller_after, outset}
use Rattle.walks.proofs.Fitting.{goes_up, through_kept, walk_facts}
use Rattle.walks.proofs.Snocs.{final_snoc}

-- the call state that an event leaves
passes : (b : Bool) (e : Event) → (is_opening e ≡ true → b ≡ false) → Passes e b (b || is_opening e)
passes true (Opening o) h = absurd (both_ways _ (h refl) refl)
passes false (Opening o) h = calls refl
passes true (Ride r) h = rides true refl
passes false (Ride r) h = rides false refl

passed_once : (e : Event) (b c : Bool) → Passes e b c → is_opening e ≡ true → b ≡ false
passed_once e b c (rides _ n) h = absurd (both_ways _ n h)
passed_once e b c (calls o) h = refl

passed_state : (e : Event) (b c : Bool) → Passes e b c → (b || is_opening e) ≡ c
passed_state e b c (rides _ n) = or_false b (is_opening e) n
  where
    or_false : (x y : Bool) → y ≡ false → (x || y) ≡ x
    or_false true y h = refl
    or_false false y h = h
passed_state e b c (calls o) = o

module _ {L : Type 0} (m : Ops L) (laws : Laws m) (es : List Event) (p : ℕ → Bool) (q : Query) (listed : IsTimetable es) (g : Log L) (n : ℕ) (right : IsRight m es p q g n) where
  abbrev EntryOver : ℕ → Bool → L → Type 0
  EntryOver i c l = (k : L) × (o : Predecessor) × (g i c ≡ Some (k, o)) × (m.no_worse k l ≡ true)

  -- a candidate has an entry that is no worse
  over_at : (i : ℕ) (c : Bool) (x : Option (L × Predecessor)) → IsRightAt m es p q g i c x → g i c ≡ x → (l : L) (o : Predecessor) → IsCandidate m es p q g i c l o → EntryOver i c l
  over_at i c (Some x) r e l o d = (x.0, x.1, e, r.1 l o d)
  over_at i c None r e l o d = absurd (r l o d)

  over : (i : ℕ) (c : Bool) → i < n → (l : L) (o : Predecessor) → IsCandidate m es p q g i c l o → EntryOver i c l
  over i c h l o d = over_at i c (g i c) (right i c h) refl l o d

  pub covers : Covers m es p q g n
  covers t js (begins i s) h = over i (is_opening (event_numbered es i)) h _ start (fresh s refl)
  covers t js (goes_on {t = u} {js = ks} w i k b) h =
      let e = final_snoc ks i in
      let f = walk_facts m es p q listed w in
      let up = goes_up m es p q listed u ks i f b in
      let i<n : i < n = subst (λ x. x < n) e h in
      let r = covers u ks w (omega arith) in
      let link : Link es (last_number ks) i = (sym f.stops ∙ sym b.0, subst (λ x. x ≤ starts_at (event_numbered es i)) f.readies b.1) in
      let d = linked (last_number ks) u.called r.0 r.1 k up link (passes u.called (event_numbered es i) b.2) r.2 in
      let x = over i (u.called || is_opening (event_numbered es i)) i<n _ _ d in
      let kept = through_kept m laws (event_numbered es i) (known_within es p listed i k) r.0 u.label r.3 in (
        x.0,
        x.1,
        ap (λ j. g j (u.called || is_opening (event_numbered es i))) e ∙ x.2,
        laws.transitive x.0 (through m (event_numbered es i) r.0) (through m (event_numbered es i) u.label) x.3 kept,
      )

  abbrev Spelled : ℕ → Bool → L → Type 0
  Spelled i c l = (js : List ℕ) × (t : Traveller L) × TracesBack g i c js × Walk m es p q t js × (last_number js ≡ i) × (t.called ≡ c) × (t.label ≡ l)

  -- an entry continues the walk of the entry that it came from
  spelled_on : (i : ℕ) (c : Bool) (j : ℕ) (b : Bool) (l : L) → IsKnown es p i → Link es j i → Passes (event_numbered es i) b c → g i c ≡ Some (through m (event_numbered es i) l, after j b) → Spelled j b l → Spelled i c (through m (event_numbered es i) l)
  spelled_on i c j b l k link pass e s =
      let js = s.0 in
      let t = s.1 in
      let f = walk_facts m es p q listed s.3 in
      let d = event_numbered es i in
      let at : event_numbered es (last_number js) ≡ event_numbered es j = ap (event_numbered es) s.4 in
      let board : CanTake d t = (
        sym link.0 ∙ ap reaches_at (sym at) ∙ sym f.stops,
        subst (λ x. x ≤ starts_at d) (ap ready_at (sym at) ∙ sym f.readies) link.1,
        (λ o. s.5 ∙ passed_once d b c pass o),
      ) in (
        js ++ i ∷ [],
        traveller_after m d t,
        then i c (through m d l) j b js e s.2,
        goes_on s.3 i k board,
        final_snoc js i,
        ap (λ x. x || is_opening d) s.5 ∙ passed_state d b c pass,
        ap (through m d) s.6,
      )

  -- an entry is one of its candidates
  pub own : (i : ℕ) (c : Bool) (x : Option (L × Predecessor)) (l : L) (o : Predecessor) → IsRightAt m es p q g i c x → x ≡ Some (l, o) → IsCandidate m es p q g i c l o
  own i c (Some x) l o r z = let y : x ≡ (l, o) = cc in subst (λ y. IsCandidate m es p q g i c y.0 y.1) y r.0
  own i c None l o r z = let y : ◌≡◌ {A = ℕ} 0 1 = cc in absurd (omega arith)

  by_candidate : (i : ℕ) (c : Bool) (l : L) (o : Predecessor) → ((j : ℕ) (b : Bool) (a : L) (r : Predecessor) → j < i → g j b ≡ Some (a, r) → Spelled j b a) → IsCandidate m es p q g i c l o → g i c ≡ Some (l, o) → Spelled i c l
  by_candidate i c l o before (fresh s z) e =
      (i ∷ [], traveller_after m (event_numbered es i) (outset m (event_numbered es i)), first i c _ e, begins i s, refl, z, refl)
  by_candidate i c l o before (linked j b a r kn lt link pass z) e = spelled_on i c j b a kn link pass e (before j b a r lt z)

  spelled_by : (k : ℕ) (i : ℕ) → i < k → i < n → (c : Bool) (l : L) (o : Predecessor) → g i c ≡ Some (l, o) → Spelled i c l
  spelled_by zero i h u c l o e = absurd (omega arith)
  spelled_by (suc k) i h u c l o e =
      by_candidate i c l o (λ j b a r lt z. spelled_by k j (omega arith) (omega arith) b a r z) (own i c (g i c) l o (right i c u) e) e

  pub spells : Spells m es p q g n
  spells i c l o h e = spelled_by (suc i) i (omega arith) h c l o e

pub log_is_global : {L : Type 0} (m : Ops L) → Laws m → LogIsGlobal m
log_is_global m laws es p q g n listed right = (covers m laws es p q listed g n right, spells m laws es p q listed g n right)
