-- The entry that a scan makes is a best one: a candidate, and no worse than every candidate.
use Rattle.std.proofs.Common.{◌≡◌, ℕ, ◌<◌, Bool, true, false, cond, ◌&&◌, eqb, leb, ◌⊎◌, List, Some, None, Option, sym, refl, ap, ◌∙◌, subst, inl, inr, ⊎_elim, arith}
use Rattle.std.proofs.ByRecursion.{all-has}
use Rattle.std.proofs.lemmas.Bool.{and_from, and_parts, both_ways, eq-eqb, eqb-true, le-leb, leb-true}
use Rattle.std.specs.Option.{option_map}
use Rattle.std.proofs.lemmas.Option.{none-some, same_Some}
use Rattle.records.specs.declared.event.Event.{Event}
use Rattle.records.specs.declared.event.Event.TheVariants.{Opening, Ride}
use Rattle.records.specs.Events.{is_opening, time_of, IsWithinLimits}
use Rattle.records.specs.Limits.{most_stops}
use Rattle.measures.specs.Measures.{Laws, Ops}
use Rattle.journeys.specs.declared.query.Query.{Query}
use Rattle.journeys.specs.Formulas.{through}
use Rattle.journeys.specs.Journeys.{event_numbered, IsKnown, leaves_at, Link, ready_at, starts_at}
use Rattle.walks.specs.Logs.{IsCandidate, Log, Passes, IsRightAt, after, calls, fresh, linked, rides, start}
use Rattle.walks.specs.Logs as logs
use Rattle.walks.specs.Walks.{Starts}
use Rattle.walks.proofs.Fitting.{through_kept}
use Rattle.scans.specs.declared.board.Incumbent.{Incumbent}
use Rattle.scans.specs.declared.entry.Entry.{Entry}
use Rattle.scans.specs.declared.entry.Stage.{Stage}
use Rattle.scans.specs.Accounts.{Accounts, AllLater}
use Rattle.scans.specs.Boards.{entry_for, ready_of, incumbent_at}
use Rattle.scans.specs.Entering.{best_at, best_before, better_of, entry_from, fresh_label, continuation}
use Rattle.scans.specs.Tables.{Contents, arrivals_in}
use Rattle.scans.specs.Views.{Agrees, log_entry, predecessor_of, view}
use Rattle.scans.proofs.Accounting.{no_worse_itself}

-- what a choice is better than
module _ {L : Type 0} (m : Ops L) (laws : Laws m) where
  abbrev Over : Option (L × Option Stage) → L → Type 0
  Over r l = (x : L × Option Stage) × (r ≡ Some x) × (m.no_worse x.0 l ≡ true)

  better_of_over_fresh : (l : L) (r : Option (Incumbent L)) (b : Bool) → Over (better_of m (Some l) r b) l
  better_of_over_fresh l None b = ((l, None), refl, no_worse_itself m laws l)
  better_of_over_fresh l (Some x) b = by_test (m.no_worse x.label l) refl
    where
      by_test : (t : Bool) → m.no_worse x.label l ≡ t → Over (cond t (Some (continuation x b)) (Some (l, None))) l
      by_test true h = (continuation x b, refl, h)
      by_test false h = ((l, None), refl, no_worse_itself m laws l)

  better_of_over_ready : (f : Option L) (x : Incumbent L) (b : Bool) → Over (better_of m f (Some x) b) x.label
  better_of_over_ready None x b = (continuation x b, refl, no_worse_itself m laws x.label)
  better_of_over_ready (Some l) x b = by_test (m.no_worse x.label l) refl
    where
      by_test : (t : Bool) → m.no_worse x.label l ≡ t → Over (cond t (Some (continuation x b)) (Some (l, None))) x.label
      by_test true h = (continuation x b, refl, no_worse_itself m laws x.label)
      by_test false h = ((l, None), refl, ⊎_elim (λ k. absurd (both_ways _ h k)) (λ k. k) (laws.total x.label l))

  -- where a choice came from
  better_of_from : (f : Option L) (r : Option (Incumbent L)) (b : Bool) (x : L × Option Stage) → better_of m f r b ≡ Some x → ((f ≡ Some x.0) × (x.1 ≡ None)) ⊎ ((s : Incumbent L) × (r ≡ Some s) × (x ≡ continuation s b))
  better_of_from None None b x h = absurd (none-some _ h)
  better_of_from (Some l) None b x h = by_start (same_Some _ _ h)
    where
      by_start : (l, None) ≡ x → ((Some l ≡ Some x.0) × (x.1 ≡ None)) ⊎ ((s : Incumbent L) × (None ≡ Some s) × (x ≡ continuation s b))
      by_start y = inl (ap (λ z. Some z.0) y, sym (ap (λ z. z.1) y))
  better_of_from None (Some s) b x h = inr (s, refl, sym (same_Some _ _ h))
  better_of_from (Some l) (Some s) b x h = by_test (m.no_worse s.label l) h
    where
      by_test : (t : Bool) → cond t (Some (continuation s b)) (Some (l, None)) ≡ Some x → ((Some l ≡ Some x.0) × (x.1 ≡ None)) ⊎ ((u : Incumbent L) × (Some s ≡ Some u) × (x ≡ continuation u b))
      by_test true h = inr (s, refl, sym (same_Some _ _ h))
      by_test false h = let y : (l, None) ≡ x = same_Some _ _ h in inl (ap (λ z. Some z.0) y, sym (ap (λ z. z.1) y))

-- an entry behind what a view shows
pub viewed : {L : Type 0} (r : Option (Entry L)) (x : L × logs.Predecessor) → option_map log_entry r ≡ Some x → (e : Entry L) × (r ≡ Some e) × (log_entry e ≡ x)
viewed None x h = absurd (none-some _ h)
viewed (Some e) x h = (e, refl, same_Some _ _ h)

-- an entry's traveller is ready when that of its event is
ready_agrees : {L : Type 0} (es : List Event) (log : List (Option (Entry L))) (j : ℕ) (c : Bool) (e : Entry L) → Agrees es log → entry_for log j c ≡ Some e → ready_of e ≡ ready_at (event_numbered es j)
ready_agrees es log j c e agrees h = (agrees j c e h).1

-- the call state before an event is the one that it passes on from
same_before : (e : Event) (b d c : Bool) → Passes e b c → Passes e d c → b ≡ d
same_before e b d c (rides _ n) (rides _ k) = refl
same_before e b d c (rides _ n) (calls o) = absurd (both_ways _ n o)
same_before e b d c (calls o) (rides _ n) = absurd (both_ways _ n o)
same_before e b d c (calls o) (calls k) = refl

module _ {L : Type 0} (m : Ops L) (laws : Laws m) (es : List Event) (p : ℕ → Bool) (q : Query) (tables : Contents L) (k : ℕ) (known : IsKnown es p k) (within : IsWithinLimits (event_numbered es k)) (accounts : Accounts m tables k (time_of (event_numbered es k))) (later : AllLater (time_of (event_numbered es k)) (arrivals_in tables)) (agrees : Agrees es tables.log) where
  abbrev here : Event
  here = event_numbered es k

  -- who is ready for the event at an earlier entry has someone on the board who is no worse
  ready-stands : (j : ℕ) (b : Bool) (l : L) (o : logs.Predecessor) → Link es j k → view tables.log j b ≡ Some (l, o) → (x : Incumbent L) × (incumbent_at tables.board (leaves_at here) b ≡ Some x) × (m.no_worse x.label l ≡ true)
  ready-stands j b l o link h =
      let v = viewed (entry_for tables.log j b) (l, o) h in
      let e = v.0 in
      let a = agrees j b e v.1 in
      let label : e.label ≡ l = ap (λ x. x.0) v.2 in
      ⊎_elim
      (λ i. absurd (omega (arith, all-has (λ x. time_of here < x.minute) (arrivals_in tables) _ later i, ready_agrees es tables.log j b e agrees v.1, link.1)))
      (λ s. (
        s.1.0,
        ap (λ x. incumbent_at tables.board x b) (sym (a.0 ∙ link.0)) ∙ s.1.1,
        subst (λ y. m.no_worse s.1.0.label y ≡ true) label s.1.2,
      ))
      (accounts.covered j b e v.1)

  -- with the fresh label f, where there may be one, and the call state b before the event
  module _ (c : Bool) (f : Option L) (b : Bool) (start_fresh : Starts es p q k → is_opening here ≡ c → f ≡ Some (m.begin (starts_at here))) (started : (l : L) → f ≡ Some l → Starts es p q k × (is_opening here ≡ c) × (l ≡ m.begin (starts_at here))) (pass : Passes here b c) where
    abbrev choice : Option (L × Option Stage)
    choice = better_of m f (incumbent_at tables.board (leaves_at here) b) b

    over_candidate : (l : L) (o : logs.Predecessor) → IsCandidate m es p q (view tables.log) k c l o → (x : L × Option Stage) × (choice ≡ Some x) × (m.no_worse (through m here x.0) l ≡ true)
    over_candidate l o (fresh s z) =
        let e = start_fresh s z in
        let v = better_of_over_fresh m laws (m.begin (starts_at here)) (incumbent_at tables.board (leaves_at here) b) b in (
          v.0,
          ap (λ y. better_of m y (incumbent_at tables.board (leaves_at here) b) b) e ∙ v.1,
          through_kept m laws here within v.0.0 (m.begin (starts_at here)) v.2,
        )
    over_candidate l o (linked j d a r kn lt link ps g) =
        let same : d ≡ b = same_before here d b c ps pass in
        let x = ready-stands j b a r link (subst (λ y. view tables.log j y ≡ Some (a, r)) same g) in
        let v = better_of_over_ready m laws f x.0 b in (
          v.0,
          ap (λ y. better_of m f y b) x.1 ∙ v.1,
          through_kept m laws here within v.0.0 a (laws.transitive v.0.0 x.0.label a v.2 x.2),
        )

    -- what was chosen is a candidate
    is_candidate : (x : L × Option Stage) → choice ≡ Some x → IsCandidate m es p q (view tables.log) k c (through m here x.0) (predecessor_of x.1)
    is_candidate x h =
        ⊎_elim
        (λ s.
        let w = started x.0 s.0 in
        subst (λ l. IsCandidate m es p q (view tables.log) k c (through m here l) (predecessor_of x.1)) (sym w.2)
        (subst (λ o. IsCandidate m es p q (view tables.log) k c (through m here (m.begin (starts_at here))) (predecessor_of o)) (sym s.1) (fresh w.0 w.1)))
        (λ r.
        let s = r.0 in
        let t = accounts.incumbent (leaves_at here) b s (stop_small here within) r.1 in
        let e = t.1.0 in
        let a = agrees s.event b e t.1.1 in
        let link : Link es s.event k = (sym a.0 ∙ t.1.3, omega (arith, ready_agrees es tables.log s.event b e agrees t.1.1, t.1.4)) in
        let g : view tables.log s.event b ≡ Some (s.label, predecessor_of e.predecessor) = ap (option_map log_entry) t.1.1 ∙ ap (λ l. Some (l, predecessor_of e.predecessor)) t.1.2 in
        subst (λ y. IsCandidate m es p q (view tables.log) k c (through m here y.0) (predecessor_of y.1)) (sym r.2)
        (linked s.event b s.label (predecessor_of e.predecessor) known t.0 link pass g))
        (better_of_from m laws f (incumbent_at tables.board (leaves_at here) b) b x h)
      where
        stop_small : (e : Event) → IsWithinLimits e → leaves_at e < most_stops
        stop_small (Opening o) w = w.1
        stop_small (Ride r) w = w.1.0

    right_by : (r : Option (L × Option Stage)) → choice ≡ r → IsRightAt m es p q (view tables.log) k c (option_map log_entry (entry_from m here r))
    right_by (Some x) h = (
      is_candidate x h,
      λ l o d.
          let v = over_candidate l o d in
          let same : v.0 ≡ x = same_Some _ _ (sym v.1 ∙ h) in
          subst (λ y. m.no_worse (through m here y.0) l ≡ true) same v.2,
    )
    right_by None h = λ l o d. let v = over_candidate l o d in none-some _ (sym h ∙ v.1)

    pub right_entry : IsRightAt m es p q (view tables.log) k c (option_map log_entry (entry_from m here choice))
    right_entry = right_by choice refl

  fresh_starts : Starts es p q k → fresh_label m q here ≡ Some (m.begin (starts_at here))
  fresh_starts s =
      ap (λ t. cond t (Some (m.begin (starts_at here))) None)
      (and_from (eqb (leaves_at here) q.from) (leb q.open (starts_at here)) (eq-eqb (leaves_at here) q.from s.1) (le-leb q.open (starts_at here) s.2))

  starts_fresh : (l : L) → fresh_label m q here ≡ Some l → Starts es p q k × (l ≡ m.begin (starts_at here))
  starts_fresh l h = by_test (eqb (leaves_at here) q.from && leb q.open (starts_at here)) refl h
    where
      by_test : (t : Bool) → (eqb (leaves_at here) q.from && leb q.open (starts_at here)) ≡ t → cond t (Some (m.begin (starts_at here))) None ≡ Some l → Starts es p q k × (l ≡ m.begin (starts_at here))
      by_test true e h =
          let t = and_parts (eqb (leaves_at here) q.from) (leb q.open (starts_at here)) e in
          ((known, eqb-true (leaves_at here) q.from t.0, leb-true q.open (starts_at here) t.1), sym (same_Some _ _ h))
      by_test false e h = absurd (none-some _ h)

  -- the entry of a scan is right, in either call state
  right_at : (o c : Bool) → is_opening here ≡ o → IsRightAt m es p q (view tables.log) k c (option_map log_entry (entry_from m here (best_at m tables.board q here o c)))
  right_at true false e = λ l o d. no_opening l o d
    where
      no_opening : (l : L) (o : logs.Predecessor) → IsCandidate m es p q (view tables.log) k false l o → ⊥
      no_opening l o (fresh s z) = both_ways _ z e
      no_opening l o (linked j b a r kn lt link (rides _ n) g) = both_ways _ n e
  right_at true true e =
      right_entry true (fresh_label m q here) false (λ s _. fresh_starts s) (λ l h. let w = starts_fresh l h in (w.0, e, w.1)) (calls e)
  right_at false true e =
      right_entry true None true (λ s z. absurd (both_ways _ e z)) (λ l h. absurd (none-some _ h)) (rides true e)
  right_at false false e =
      right_entry false (fresh_label m q here) false (λ s _. fresh_starts s) (λ l h. let w = starts_fresh l h in (w.0, e, w.1)) (rides false e)

  pub right_step : (c : Bool) → IsRightAt m es p q (view tables.log) k c (option_map log_entry (entry_from m here (best_before m tables.board q here c)))
  right_step c = right_at (is_opening here) c refl
