-- The journeys that fit are the temporal walks within the window.
use Rattle.std.proofs.Common.{◌≡◌, ℕ, ◌+◌, ◌<◌, ◌≤◌, Bool, cond, List, [], ◌∷◌, length, eqb, sym, refl, ◌∙◌, arith}
use Rattle.std.proofs.lemmas.Bool.Decides.{nat_tests}
use Rattle.std.proofs.lemmas.List.{length-map}
use Rattle.std.proofs.lemmas.List.Sums.{sum_by-cons}
use Rattle.std.specs.List.{AllByRecursion}
use Rattle.records.specs.declared.event.Event.{Event}
use Rattle.records.specs.declared.event.Event.TheVariants.{Opening, Ride}
use Rattle.records.specs.Events.{IsTimetable, time_of}
use Rattle.journeys.specs.declared.query.Query.{Query}
use Rattle.journeys.specs.Journeys.{AllNeighbours, Fits, Link, end_of, last_number, first_number, leaves_at, minutes, event_numbered, one_if_opening, one_if_ride, openings, reaches_at, rides, IsKnown}
use Rattle.journeys.specs.Walks.{TemporalEdge, WalkInWindow, WalksAreJourneys, edge_of, edges_of, stays}
use Rattle.journeys.proofs.Chains.{chained_map, lower_rank, map_chained, rank}
use Rattle.journeys.proofs.Spans.{known_within, within_ride}

-- an event and its edge
record SameEdge (e : Event) : Type 0 where
  tails : (edge_of e).tail ≡ leaves_at e
  heads : (edge_of e).head ≡ reaches_at e
  starts : (edge_of e).start ≡ time_of e
  passed : (edge_of e).start + (edge_of e).duration ≡ end_of e

same_edge : (e : Event) → SameEdge e
same_edge (Opening o) = record { tails = refl; heads = refl; starts = refl; passed = omega arith }
same_edge (Ride r) = record { tails = refl; heads = refl; starts = refl; passed = refl }

one_kind : (e : Event) → one_if_opening e + one_if_ride e ≡ 1
one_kind (Opening o) = refl
one_kind (Ride r) = refl

opening_stays : (e : Event) → one_if_ride e ≤ minutes e → cond (eqb (edge_of e).duration 0) 1 0 ≡ one_if_opening e
opening_stays (Opening o) w = refl
opening_stays (Ride r) w = grind (arith, nat_tests)

-- of two neighbours of a walk, not both openings, the second ranks higher
next_rank : (d e : Event) → one_if_ride d ≤ minutes d → end_of d ≤ time_of e → one_if_opening d + one_if_opening e ≤ 1 → rank d < rank e
next_rank (Opening a) (Opening b) w h o = absurd (omega arith)
next_rank (Opening a) (Ride r) w h o = omega arith
next_rank (Ride r) e w h o = omega arith

one_at_most : (b : Bool) → cond b 1 0 ≤ 1
one_at_most b = grind (arith, nat_tests)

module _ (es : List Event) where
  abbrev Joined : TemporalEdge → TemporalEdge → Type 0
  Joined c d = (c.head ≡ d.tail) × (c.start + c.duration ≤ d.start)

  abbrev edge : ℕ → TemporalEdge
  edge j = edge_of (event_numbered es j)

  link_joins : (j k : ℕ) → Link es j k → Joined (edge j) (edge k)
  link_joins j k l =
      let c = same_edge (event_numbered es j) in
      let d = same_edge (event_numbered es k) in
      (c.heads ∙ l.0 ∙ sym d.tails, omega (arith, c.passed, d.starts, l.1))

  joined_links : (j k : ℕ) → Joined (edge j) (edge k) → Link es j k
  joined_links j k l =
      let c = same_edge (event_numbered es j) in
      let d = same_edge (event_numbered es k) in
      (sym c.heads ∙ l.0 ∙ d.tails, omega (arith, c.passed, d.starts, l.1))

  pub kinds_sum : (js : List ℕ) → rides es js + openings es js ≡ length js
  kinds_sum [] = refl
  kinds_sum (j ∷ js) = omega (arith, one_kind (event_numbered es j), kinds_sum js)

module _ (es : List Event) (p : ℕ → Bool) (listed : IsTimetable es) where
  takes : (j : ℕ) → IsKnown es p j → one_if_ride (event_numbered es j) ≤ minutes (event_numbered es j)
  takes j k = within_ride (event_numbered es j) (known_within es p listed j k)

  stays_openings : (js : List ℕ) → AllByRecursion (IsKnown es p) js → stays (edges_of es js) ≡ openings es js
  stays_openings [] a = refl
  stays_openings (j ∷ js) a =
      omega (arith, sum_by-cons (λ d. cond (eqb d.duration 0) 1 0) (edge es j) (edges_of es js), opening_stays (event_numbered es j) (takes j a.0), stays_openings js a.1)

  -- with one opening at most, numbers rise along a walk
  rising : (js : List ℕ) → AllByRecursion (IsKnown es p) js → openings es js ≤ 1 → AllNeighbours (Link es) js → AllNeighbours ◌<◌ js
  rising [] a o c = tt
  rising (j ∷ []) a o c = (tt, tt)
  rising (j ∷ k ∷ ks) a o c = (
    lower_rank es listed j k a.0.0 (next_rank (event_numbered es j) (event_numbered es k) (takes j a.0) c.0.1 (omega arith)),
    rising (k ∷ ks) a.1 (omega arith) c.1,
  )

module _ (es : List Event) (p : ℕ → Bool) (q : Query) (js : List ℕ) (listed : IsTimetable es) where
  walk_from_fits : Fits es p q js → WalkInWindow es p q js
  walk_from_fits f =
      let j = f.journey in
      let b = same_edge (event_numbered es (first_number js)) in
      let e = same_edge (event_numbered es (last_number js)) in
      let s = stays_openings es p listed js j.known in
      record {
        known = j.known;
        walk = chained_map (Link es) (edge es) (Joined es) (link_joins es) js j.linked;
        moves = omega (arith, s, kinds_sum es js, length-map js (edge es), j.ridden);
        called = s ∙ j.called;
        from = b.tails ∙ j.departs;
        to = e.heads ∙ j.arrives;
        opens = omega (arith, b.starts, f.opens);
        closes = omega (arith, e.passed, f.closes);
      }

  fits_from_walk : WalkInWindow es p q js → Fits es p q js
  fits_from_walk w =
      let b = same_edge (event_numbered es (first_number js)) in
      let e = same_edge (event_numbered es (last_number js)) in
      let s = stays_openings es p listed js w.known in
      let linked = map_chained (Link es) (edge es) (Joined es) (joined_links es) js w.walk in
      record {
        journey =
            record {
              known = w.known;
              rising = rising es p listed js w.known (omega (arith, s, w.called, one_at_most q.call)) linked;
              linked = linked;
              ridden = omega (arith, s, kinds_sum es js, length-map js (edge es), w.moves);
              called = sym s ∙ w.called;
              departs = sym b.tails ∙ w.from;
              arrives = sym e.heads ∙ w.to;
            };
        opens = omega (arith, b.starts, w.opens);
        closes = omega (arith, e.passed, w.closes);
      }

pub walks_are_journeys : WalksAreJourneys
walks_are_journeys es p q js listed = (walk_from_fits es p q js listed, fits_from_walk es p q js listed)
