-- From a log that is right up to the close to the best journey.
use Rattle.std.proofs.Common.{◌≡◌, ℕ, ◌<◌, ◌≤◌, Bool, not, List, ◌++◌, length, take, drop, Some, None, Option, sym, ap, ◌∙◌, subst, arith}
use Rattle.std.proofs.lemmas.List.{drop_all, drop-append-le, take_all, take-append-le}
use Rattle.std.proofs.lemmas.Bool.{both_ways, eq-eqb}
use Rattle.std.specs.Option.{option_map}
use Rattle.faults.specs.Rules.{IsKept}
use Rattle.faults.proofs.Rules.{tests_true}
use Rattle.records.specs.declared.event.Event.{Event}
use Rattle.records.specs.Events.{IsTimetable}
use Rattle.measures.specs.Measures.{Laws, Ops, ◌≼◌}
use Rattle.journeys.specs.declared.query.Query.{Query}
use Rattle.journeys.specs.Best.{IsLowerBound, NothingFits}
use Rattle.journeys.specs.Formulas.{label_of, score_of}
use Rattle.journeys.specs.Queries.{query_rules}
use Rattle.journeys.specs.Journeys.{Fits, beginning, end_of, ending, event_numbered, rides, riding}
use Rattle.journeys.proofs.Spans.{journey_span}
use Rattle.walks.specs.Logs.{IsCandidate, EndsRightly, AllLate, IsLowest, TracesBack, fresh, linked}
use Rattle.walks.specs.Logs as logs
use Rattle.walks.proofs.Global.{own}
use Rattle.walks.proofs.Optimal.{entry_fits, gives_best, log_gives_best, stopping_loses_nothing}
use Rattle.search.specs.declared.carried.Carried.{Carried}
use Rattle.scans.specs.declared.entry.Entry.{Entry}
use Rattle.search.specs.declared.lead.Leader.{Leader}
use Rattle.search.specs.declared.finder.Arrived.{Arrived}
use Rattle.scans.specs.Boards.{entry_for}
use Rattle.search.specs.Carrying.{carrying}
use Rattle.search.specs.Readings.{Ends, IsRightLog, Leads, Travels, answer_for}
use Rattle.journeys.specs.Answers.{answer_of}
use Rattle.search.specs.Searches.{FindsBest, NamesJourney, reads_of}
use Rattle.journeys.specs.declared.answer.Answer.{Answer}
use Rattle.search.specs.Tracing.{IsBackward}
use Rattle.scans.specs.Views.{log_entry, predecessor_of, view}
use Rattle.search.proofs.Carryings.{label_carries}
use Rattle.scans.proofs.Entries.{viewed}

module _ {L : Type 0} (m : Ops L) (laws : Laws m) (es : List Event) (p : ℕ → Bool) (q : Query) (listed : IsTimetable es) (log : List (Option (Entry L))) (n : ℕ) (here : IsRightLog m es p q n log) where
  -- a predecessor is an earlier event
  earlier : (i : ℕ) (c : Bool) (l : L) (o : logs.Predecessor) (j : ℕ) (b : Bool) → IsCandidate m es p q (view log) i c l o → o ≡ logs.after j b → j < i
  earlier i c l o j b (fresh s z) h = let y : ◌≡◌ {A = ℕ} 0 1 = cc in absurd (omega arith)
  earlier i c l o j b (linked k d a r kn lt link pass z) h = let s : k ≡ j = cc in omega arith

  pub backward : IsBackward log
  backward i c e s h o =
      let v : view log i c ≡ Some (log_entry e) = ap (option_map log_entry) h in
      earlier i c e.label (predecessor_of e.predecessor) s.event s.called
      (own m laws es p q listed (view log) n here.right i c (view log i c) e.label (predecessor_of e.predecessor) (here.right i c (here.near i c e h)) v)
      (ap predecessor_of o)

  late : AllLate q es n
  late = subst (AllLate q es) (sym here.count) (stopping_loses_nothing es p q listed).0

  entry_ends : (i : ℕ) (e : Entry L) → i < n → entry_for log i q.call ≡ Some e → Ends q e → EndsRightly m es q (view log) n i e.label (predecessor_of e.predecessor)
  entry_ends i e l h r =
      let a = here.agrees i q.call e h in
      (l, ap (option_map log_entry) h, sym a.0 ∙ r.0, subst (λ t. t ≤ q.close) a.1 r.1)

  ends_entry : (i : ℕ) (l : L) (o : logs.Predecessor) → EndsRightly m es q (view log) n i l o → (e : Entry L) × (entry_for log i q.call ≡ Some e) × (e.label ≡ l) × Ends q e
  ends_entry i l o r =
      let v = viewed (entry_for log i q.call) (l, o) r.1 in
      let a = here.agrees i q.call v.0 v.1 in
      (v.0, v.1, ap (λ x. x.0) v.2, (a.0 ∙ r.2, subst (λ t. t ≤ q.close) (sym a.1) r.3))

  module _ (apart : q.from ≡ q.to → ⊥) where
    pub none_fits : Leads m q log n None → NothingFits es p q
    none_fits h =
        (log_gives_best m laws es p q (view log) n listed apart here.right late).2
        (λ i l o r. let x = ends_entry i l o r in h i x.0 r.0 x.1 x.3)

    -- who leads ends a journey that fits, and none that fits scores lower
    pub leader_best : (x : Leader L) → Leads m q log n (Some x)
        → (js : List ℕ) × TracesBack (view log) x.event q.call js × Fits es p q js × (x.entry.label ≡ label_of m es js) × (x.entry.end ≡ ending es js) × IsLowerBound m es p q (score_of m es js)
    leader_best x h =
        let i = x.event in
        let e = x.entry in
        let a = here.agrees i q.call e h.1 in
        let r = entry_ends i e h.0 h.1 h.2 in
        let low : IsLowest m es q (view log) n i e.label = λ j k o d.
        let y = ends_entry j k o d in
        let b = here.agrees j q.call y.0 y.1 in
        subst (λ t. m.settle e.label t ≼ m.settle k (end_of (event_numbered es j))) a.1
        (subst (λ t. m.settle e.label e.end ≼ m.settle k t) b.1
        (subst (λ l. m.settle e.label e.end ≼ m.settle l y.0.end) y.2 (h.3 j y.0 d.0 y.1 y.3))) in
        let j = entry_fits m laws es p q (view log) n listed apart here.right late i e.label (predecessor_of e.predecessor) r in
        let best = gives_best m laws es p q (view log) n listed apart here.right late i e.label (predecessor_of e.predecessor) r low in
        (j.0, j.1, j.2, sym j.3, a.1 ∙ sym j.4, subst (IsLowerBound m es p q) (sym j.5) best)

-- what came of reading up for a query that passed its checks, and of tracing back from who leads
module _ {L : Type 0} (m : Ops L) (laws : Laws m) (es : List Event) (p : ℕ → Bool) (q : Query) (listed : IsTimetable es) (rules : IsKept (query_rules q)) (log : List (Option (Entry L))) (n : ℕ) (here : IsRightLog m es p q n log) where
  -- its stops differ
  differ : q.from ≡ q.to → ⊥
  differ h = both_ways _ (ap not (eq-eqb _ _ h)) (tests_true (query_rules q) rules).0

  pub travelled_none : (steps steps' : List ℕ) → Leads m q log n None → steps' ≡ steps → Travels m es p q steps None steps'
  travelled_none steps steps' h e = (none_fits m laws es p q listed log n here differ h, e)

  module _ (x : Leader L) (leads : Leads m q log n (Some x)) where
    best : (js : List ℕ) × TracesBack (view log) x.event q.call js × Fits es p q js × (x.entry.label ≡ label_of m es js) × (x.entry.end ≡ ending es js) × IsLowerBound m es p q (score_of m es js)
    best = leader_best m laws es p q listed log n here differ x leads

    pub journey : (js : List ℕ) × TracesBack (view log) x.event q.call js
    journey = (best.0, best.1)

    pub travelled_some : (steps steps' : List ℕ) (count reads : ℕ)
        → ((js : List ℕ) → TracesBack (view log) x.event q.call js → count ≡ length js)
        → ((js : List ℕ) → TracesBack (view log) x.event q.call js → steps' ≡ js ++ drop (length js) steps)
        → reads ≡ reads_of es q.close
        → Travels m es p q steps (Some (record { label = x.entry.label; end = x.entry.end; steps = count; reads = reads })) steps'
    unfolding best journey
    travelled_some steps steps' count reads counted written read = (
      best.0,
      best.2,
      best.3,
      best.4,
      counted best.0 journey.1,
      read,
      written best.0 journey.1,
      best.5,
    )

-- the score of a journey is the same with what its label carries along
score_carries : {L : Type 0} (m : Ops L) (es : List Event) (p : ℕ → Bool) (q : Query) → IsTimetable es → (js : List ℕ) → Fits es p q js → score_of (carrying m) es js ≡ score_of m es js
score_carries m es p q listed js fits =
    let span = journey_span es p listed q js fits.journey in
    ap (λ l. m.settle l (ending es js)) (label_carries m es js (omega (arith, span)) (omega (arith, span))).0

-- what is told of a journey is true of it
pub travelled_named : {L : Type 0} (m : Ops L) (es : List Event) (p : ℕ → Bool) (q : Query) → IsTimetable es → (steps : List ℕ) (a : Arrived (Carried L)) (steps' : List ℕ) → Travels (carrying m) es p q steps (Some a) steps' → NamesJourney m es p q steps (answer_for m a) steps'
travelled_named {L} m es p q listed steps a steps' (js, fits, label, end, count, reads, written, least) =
    let span = journey_span es p listed q js fits.journey in
    let carried = label_carries m es js (omega (arith, span)) (omega (arith, span)) in
    let front : take a.steps steps' ≡ js =
    ap (λ k. take k steps') count ∙ ap (take (length js)) written ∙ take-append-le (length js) js (drop (length js) steps) (omega arith) ∙ take_all (length js) js (omega arith) in
    let rest : drop a.steps steps' ≡ drop a.steps steps =
    ap (λ k. drop k steps') count
    ∙ ap (drop (length js)) written
    ∙ drop-append-le (length js) js (drop (length js) steps) (omega arith)
    ∙ ap (λ xs. xs ++ drop (length js) steps) (drop_all (length js) js (omega arith))
    ∙ ap (λ k. drop k steps) (sym count) in
    let begin : a.label.begin ≡ beginning es js = ap (λ l. l.begin) label ∙ carried.1 in
    let ridden : a.label.riding ≡ riding es js = ap (λ l. l.riding) label ∙ carried.2 in
    let rode : a.label.rides ≡ rides es js = ap (λ l. l.rides) label ∙ carried.3 in
    let same : m.settle a.label.label a.end ≡ score_of (carrying m) es js =
    ap (λ l. m.settle l.label a.end) label ∙ ap (m.settle (label_of (carrying m) es js).label) end in
    let score : m.settle a.label.label a.end ≡ score_of m es js = same ∙ score_carries m es p q listed js fits in
    let same_answer : answer_for m a ≡ answer_of m es js (reads_of es q.close) = cc in
    record {
      fits = subst (Fits es p q) (sym front) fits;
      least = λ ks f. subst (λ t. m.settle a.label.label a.end ≼ t) (score_carries m es p q listed ks f) (subst (λ t. t ≼ score_of (carrying m) es ks) (sym same) (least ks f));
      answer = same_answer ∙ ap (λ ks. answer_of m es ks (reads_of es q.close)) (sym front);
      rest = rest;
    }

-- and of no journey none is told
pub told_found : {L : Type 0} (m : Ops L) (es : List Event) (p : ℕ → Bool) (q : Query) → IsTimetable es → (steps : List ℕ) (o : Option (Arrived (Carried L))) (r : Option Answer) (steps' : List ℕ) → r ≡ option_map (answer_for m) o → Travels (carrying m) es p q steps o steps' → FindsBest m es p q steps r steps'
told_found m es p q listed steps o r steps' e t = subst (λ x. FindsBest m es p q steps x steps') (sym e) (by_case o t)
  where
    by_case : (o : Option (Arrived (Carried _))) → Travels (carrying m) es p q steps o steps' → FindsBest m es p q steps (option_map (answer_for m) o) steps'
    by_case None t = t
    by_case (Some a) t = travelled_named m es p q listed steps a steps' t
