-- The journeys that fit are exactly the walks that end rightly; and one walk in another's place.
use Rattle.std.proofs.Common.{◌≡◌, ℕ, ◌+◌, ◌<◌, ◌≤◌, Bool, true, false, ◌||◌, List, [], ◌∷◌, ◌++◌, length, sym, refl, ap, ◌∙◌, subst, ⊎_elim, arith}
use Rattle.std.proofs.ByRecursion.{All-push}
use Rattle.std.proofs.lemmas.List.{append_assoc, append-nil, length-append}
use Rattle.std.proofs.lemmas.Bool.{both_ways, cases_lt, or_right}
use Rattle.std.specs.List.{AllByRecursion}
use Rattle.records.specs.declared.event.Event.{Event}
use Rattle.records.specs.declared.event.Event.TheVariants.{Opening, Ride}
use Rattle.records.specs.Events.{is_opening, IsTimetable, time_of, IsWithinLimits}
use Rattle.measures.specs.Measures.{Laws, Ops}
use Rattle.journeys.specs.declared.query.Query.{Query}
use Rattle.journeys.specs.Formulas.{along, label_of, through}
use Rattle.journeys.specs.Journeys.{AllNeighbours, beginning, end_of, event_numbered, first_number, Fits, IsKnown, last_number, last_number_from, leaves_at, Link, minutes, one_if, one_if_opening, one_if_ride, openings, reaches_at, ready_at, rides, starts_at}
use Rattle.journeys.proofs.Spans.{known_within, within_long, within_ride}
use Rattle.journeys.proofs.Chains.{lower_rank, rank}
use Rattle.journeys.proofs.Temporal.{kinds_sum}
use Rattle.walks.specs.Walks.{CanTake, Exchange, FitsBy, ArrivesRightly, Starts, Traveller, Walk, WalksFit, begins, goes_on, traveller_after, outset}
use Rattle.walks.proofs.Snocs.{along_snoc, chained_snoc, final_snoc, first_snoc, total_snoc}

-- an opening counts once, where the call was not made yet
one_if-after : (b : Bool) (e : Event) → (is_opening e ≡ true → b ≡ false) → one_if b + one_if_opening e ≡ one_if (b || is_opening e)
one_if-after true (Opening o) h = absurd (both_ways _ (h refl) refl)
one_if-after false (Opening o) h = refl
one_if-after true (Ride r) h = refl
one_if-after false (Ride r) h = refl

one_if_same : (b c : Bool) → one_if b ≡ one_if c → b ≡ c
one_if_same true true h = refl
one_if_same true false h = absurd (omega arith)
one_if_same false true h = absurd (omega arith)
one_if_same false false h = refl

-- what comes later in a walk has the higher number
next_rank : (d e : Event) → one_if_ride d ≤ minutes d → end_of d ≤ time_of e → (is_opening d ≡ true → is_opening e ≡ false) → rank d < rank e
next_rank (Opening o) (Opening n) w h k = absurd (both_ways _ (k refl) refl)
next_rank (Opening o) (Ride r) w h k = omega arith
next_rank (Ride r) e w h k = omega arith

-- what a walk is, by its list
pub record Facts {L : Type 0} (m : Ops L) (es : List Event) (p : ℕ → Bool) (q : Query) (t : Traveller L) (js : List ℕ) : Type 0 where
  pub some : 0 < length js
  pub known : AllByRecursion (IsKnown es p) js
  pub last_known : IsKnown es p (last_number js)
  pub rising : AllNeighbours ◌<◌ js
  pub linked : AllNeighbours (Link es) js
  pub calls : openings es js ≡ one_if t.called
  pub departs : leaves_at (event_numbered es (first_number js)) ≡ q.from
  pub opens : q.open ≤ beginning es js
  pub stops : t.stop ≡ reaches_at (event_numbered es (last_number js))
  pub ends : t.end ≡ end_of (event_numbered es (last_number js))
  pub readies : t.ready ≡ ready_at (event_numbered es (last_number js))
  pub label_is : t.label ≡ label_of m es js
  pub last_call : is_opening (event_numbered es (last_number js)) ≡ true → t.called ≡ true

module _ {L : Type 0} (m : Ops L) (es : List Event) (p : ℕ → Bool) (q : Query) (listed : IsTimetable es) where
  begin_facts : (i : ℕ) → Starts es p q i → Facts m es p q (traveller_after m (event_numbered es i) (outset m (event_numbered es i))) (i ∷ [])
  begin_facts i s =
      record {
        some = omega arith;
        known = (s.0, tt);
        last_known = s.0;
        rising = (tt, tt);
        linked = (tt, tt);
        calls = omega (arith, one_if-after false (event_numbered es i) (λ _. refl));
        departs = s.1;
        opens = s.2;
        stops = refl;
        ends = refl;
        readies = refl;
        label_is = refl;
        last_call = λ o. o;
      }

  -- an event that a walk can go on with has a higher number than its last
  pub goes_up : (t : Traveller L) (js : List ℕ) (i : ℕ) → Facts m es p q t js → CanTake (event_numbered es i) t → last_number js < i
  goes_up t js i f b =
      let d = event_numbered es (last_number js) in
      lower_rank es listed (last_number js) i f.last_known.0
      (next_rank d (event_numbered es i) (within_ride d (known_within es p listed (last_number js) f.last_known))
      (subst (λ x. x ≤ starts_at (event_numbered es i)) f.readies b.1)
      (λ o. not_opening (event_numbered es i) (λ e. both_ways _ (b.2 e) (f.last_call o))))
    where
      not_opening : (e : Event) → (is_opening e ≡ true → ⊥) → is_opening e ≡ false
      not_opening (Opening o) n = absurd (n refl)
      not_opening (Ride r) n = refl

  on_facts : (t : Traveller L) (js : List ℕ) (i : ℕ) → Facts m es p q t js → IsKnown es p i → CanTake (event_numbered es i) t → Facts m es p q (traveller_after m (event_numbered es i) t) (js ++ i ∷ [])
  on_facts t js i f k b =
      let e = final_snoc js i in
      let h = first_snoc js i f.some in
      let at = sym (ap (event_numbered es) e) in
      record {
        some = omega (arith, length-append js (i ∷ []));
        known = All-push (IsKnown es p) js i f.known k;
        last_known = subst (IsKnown es p) (sym e) k;
        rising = chained_snoc ◌<◌ js i f.rising (λ _. goes_up t js i f b);
        linked =
            chained_snoc (Link es) js i f.linked
            (λ _. (sym f.stops ∙ sym b.0, subst (λ x. x ≤ starts_at (event_numbered es i)) f.readies b.1));
        calls = total_snoc (λ j. one_if_opening (event_numbered es j)) js i ∙ ap (λ x. x + one_if_opening (event_numbered es i)) f.calls ∙ one_if-after t.called (event_numbered es i) b.2;
        departs = ap (λ j. leaves_at (event_numbered es j)) h ∙ f.departs;
        opens = subst (λ j. q.open ≤ starts_at (event_numbered es j)) (sym h) f.opens;
        stops = ap reaches_at at;
        ends = ap end_of at;
        readies = ap ready_at at;
        label_is =
            ap (through m (event_numbered es i)) f.label_is
            ∙ sym (along_snoc m es (m.begin (beginning es js)) js i)
            ∙ ap (λ j. along m es (m.begin (starts_at (event_numbered es j))) (js ++ i ∷ [])) (sym h);
        last_call = λ o. or_right t.called (is_opening (event_numbered es i)) (subst (λ j. is_opening (event_numbered es j) ≡ true) e o);
      }

  pub walk_facts : {t : Traveller L} {js : List ℕ} → Walk m es p q t js → Facts m es p q t js
  walk_facts (begins i s) = begin_facts i s
  walk_facts (goes_on {t} {js} w i k b) = on_facts t js i (walk_facts w) k b

-- rides and openings are all there is
opening_stays : (e : Event) → one_if_ride e ≡ 0 → leaves_at e ≡ reaches_at e
opening_stays (Opening o) h = refl
opening_stays (Ride r) h = absurd (omega arith)

-- between two stops a walk with one opening at most has a ride
some_ride : (es : List Event) (js : List ℕ) → 0 < length js → openings es js ≤ 1 → (leaves_at (event_numbered es (first_number js)) ≡ reaches_at (event_numbered es (last_number js)) → ⊥) → 1 ≤ rides es js
some_ride es [] h o n = absurd (omega arith)
some_ride es (j ∷ []) h o n =
    ⊎_elim (λ z. absurd (n (opening_stays (event_numbered es j) (omega arith)))) (λ l. omega arith) (cases_lt (rides es (j ∷ [])) 1)
some_ride es (j ∷ k ∷ ks) h o n = omega (arith, kinds_sum es (j ∷ k ∷ ks))

one_if_le : (b : Bool) → one_if b ≤ 1
one_if_le true = omega arith
one_if_le false = omega arith

module _ {L : Type 0} (m : Ops L) (es : List Event) (p : ℕ → Bool) (q : Query) (listed : IsTimetable es) where
  fits_from_walk : (q.from ≡ q.to → ⊥) → (t : Traveller L) (js : List ℕ) → Walk m es p q t js → ArrivesRightly q t → FitsBy m es p q t js
  fits_from_walk apart t js w r =
      let f = walk_facts m es p q listed w in (
        record {
          journey =
              record {
                known = f.known;
                rising = f.rising;
                linked = f.linked;
                ridden =
                    some_ride es js f.some (subst (λ x. x ≤ 1) (sym f.calls) (one_if_le t.called))
                    (λ e. apart (sym f.departs ∙ e ∙ sym f.stops ∙ r.1));
                called = f.calls ∙ ap one_if r.0;
                departs = f.departs;
                arrives = sym f.stops ∙ r.1;
              };
          opens = f.opens;
          closes = subst (λ x. x ≤ q.close) f.ends r.2;
        },
        f.label_is,
        f.ends,
      )

  -- a walk so far, and the rest of a journey
  record Onward (js : List ℕ) (j : ℕ) (ks : List ℕ) (b : Bool) : Type 0 where
    traveller : Traveller L
    walk : Walk m es p q traveller (js ++ ks)
    stops : traveller.stop ≡ reaches_at (event_numbered es (last_number_from j ks))
    ends : traveller.end ≡ end_of (event_numbered es (last_number_from j ks))
    calls : one_if traveller.called ≡ one_if b + openings es ks

  onward : (ks : List ℕ) (t : Traveller L) (js : List ℕ) (j : ℕ) → Walk m es p q t js → t.stop ≡ reaches_at (event_numbered es j) → t.ready ≡ ready_at (event_numbered es j) → t.end ≡ end_of (event_numbered es j) → AllNeighbours (Link es) (j ∷ ks) → AllByRecursion (IsKnown es p) ks → one_if t.called + openings es ks ≤ 1 → Onward js j ks t.called
  onward [] t js j w s r e c a o =
      record { traveller = t; walk = subst (Walk m es p q t) (sym (append-nil js)) w; stops = s; ends = e; calls = omega arith }
  onward (k ∷ ks) t js j w s r e c a o =
      let d = event_numbered es k in
      let once : is_opening d ≡ true → t.called ≡ false = λ h. uncalled t.called d h (omega arith) in
      let b : CanTake d t = (sym c.0.0 ∙ sym s, subst (λ x. x ≤ starts_at d) (sym r) c.0.1, once) in
      let n = one_if-after t.called d once in
      let x = onward ks (traveller_after m d t) (js ++ k ∷ []) k (goes_on w k a.0 b) refl refl refl c.1 a.1 (omega (arith, n)) in
      record {
        traveller = x.traveller;
        walk = subst (Walk m es p q x.traveller) (append_assoc js (k ∷ []) ks) x.walk;
        stops = x.stops;
        ends = x.ends;
        calls = omega (arith, x.calls, n);
      }
    where
      uncalled : (b : Bool) (e : Event) → is_opening e ≡ true → one_if b + one_if_opening e ≤ 1 → b ≡ false
      uncalled false e h l = refl
      uncalled true (Opening o) h l = absurd (omega arith)
      uncalled true (Ride r) h l = absurd (both_ways _ refl h)

  walk_from_fits : (js : List ℕ) → Fits es p q js → (t : Traveller L) × Walk m es p q t js × ArrivesRightly q t
  walk_from_fits [] f = absurd (omega (arith, f.journey.ridden))
  walk_from_fits (j ∷ js) f =
      let g = f.journey in
      let d = event_numbered es j in
      let w = begins j (g.known.0, g.departs, f.opens) in
      let n = one_if-after false d (λ _. refl) in
      let total : openings es (j ∷ js) ≡ one_if q.call = g.called in
      let x = onward js (traveller_after m d (outset m d)) (j ∷ []) j w refl refl refl g.linked g.known.1 (omega (arith, n, total, one_if_le q.call)) in (
        x.traveller,
        x.walk,
        (
          one_if_same x.traveller.called q.call (omega (arith, x.calls, n, total)),
          x.stops ∙ g.arrives,
          subst (λ y. y ≤ q.close) (sym x.ends) f.closes,
        ),
      )

pub walks_fit : {L : Type 0} (m : Ops L) → WalksFit m
walks_fit m es p q js listed apart = (walk_from_fits m es p q listed js, (λ t w r. fits_from_walk m es p q listed apart t js w r))

-- the same event keeps one label no worse than another
pub through_kept : {L : Type 0} (m : Ops L) → Laws m → (e : Event) → IsWithinLimits e → (a b : L) → m.no_worse a b ≡ true → m.no_worse (through m e a) (through m e b) ≡ true
through_kept m laws (Opening o) w a b h = h
through_kept m laws (Ride r) w a b h = laws.rides a b r.duration (within_ride (Ride r) w) (within_long (Ride r) w) h

pub exchange : {L : Type 0} (m : Ops L) → Laws m → Exchange m
exchange m laws es p q t u js ks i listed w v c k b d h = (
  goes_on w i k b,
  ap (λ x. x || is_opening (event_numbered es i)) c,
  through_kept m laws (event_numbered es i) (known_within es p listed i k) t.label u.label h,
)
