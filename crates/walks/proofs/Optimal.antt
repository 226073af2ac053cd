-- The lowest settled entry of a right log is the best score; and events that are too late.
use Rattle.std.proofs.Common.{◌≡◌, ℕ, suc, ◌<◌, ◌≤◌, Bool, true, false, cond, leb, List, [], ◌∷◌, length, sym, refl, ap, ◌∙◌, subst, ⊎_elim, arith}
use Rattle.std.proofs.lemmas.Int.{ints}
use Rattle.std.proofs.lemmas.Bool.{cases_lt, leb-false}
use Rattle.records.specs.declared.event.Event.{Event}
use Rattle.records.specs.declared.event.Event.TheVariants.{Opening, Ride}
use Rattle.records.specs.Events.{IsTimetable, time_of}
use Rattle.measures.specs.Measures.{Laws, Ops, Score, ◌≼◌}
use Rattle.journeys.specs.declared.query.Query.{Query}
use Rattle.journeys.specs.Best.{IsLowerBound}
use Rattle.journeys.specs.Formulas.{label_of, score_of}
use Rattle.journeys.specs.Journeys.{Fits, end_of, ending, last_number, event_numbered, reaches_at}
use Rattle.journeys.proofs.Chains.{times_rise}
use Rattle.journeys.proofs.Spans.{known_final, known_within, within_ends}
use Rattle.walks.specs.Logs.{EndsRightly, AllLate, Log, LogGivesBest, IsLowest, Predecessor, IsRight, StoppingLosesNothing, TracesBack, first_late}
use Rattle.walks.specs.Walks.{ArrivesRightly}
use Rattle.walks.proofs.Fitting.{walk_facts, walks_fit}
use Rattle.walks.proofs.Global.{covers, spells}

pub ≼_trans : (s t u : Score) → s ≼ t → t ≼ u → s ≼ u
≼_trans s t u h k = grind (arith, ints)

time_end : (e : Event) → time_of e ≤ end_of e
time_end (Opening o) = omega arith
time_end (Ride r) = omega arith

-- a journey that fits ends before what is too late
module _ (es : List Event) (p : ℕ → Bool) (q : Query) (listed : IsTimetable es) (n : ℕ) (late : AllLate q es n) where
  final_known : (js : List ℕ) → Fits es p q js → last_number js < length es
  final_known [] f = absurd (omega (arith, f.journey.ridden))
  final_known (j ∷ js) f = (known_final es p listed j js f.journey.known).0

  pub final_in_time : (js : List ℕ) → Fits es p q js → last_number js < n
  final_in_time js f =
      ⊎_elim (λ l. l)
      (λ l. absurd (omega (arith, late (last_number js) l (final_known js f), time_end (event_numbered es (last_number js)), f.closes)))
      (cases_lt (last_number js) n)

-- where the events that are not too late end
late_here : (e : Event) (es : List Event) (c : ℕ) (b : Bool) → leb (time_of e) c ≡ b → (first_late es c < length es → c < time_of (event_numbered es (first_late es c))) → cond b (suc (first_late es c)) 0 < suc (length es) → c < time_of (event_numbered (e ∷ es) (cond b (suc (first_late es c)) 0))
late_here e es c true h r l = r (omega arith)
late_here e es c false h r l = leb-false (time_of e) c h

first_late_at : (es : List Event) (c : ℕ) → first_late es c < length es → c < time_of (event_numbered es (first_late es c))
first_late_at [] c h = absurd (omega arith)
first_late_at (e ∷ es) c h = late_here e es c (leb (time_of e) c) refl (first_late_at es c) h

pub stopping_loses_nothing : StoppingLosesNothing
stopping_loses_nothing es p q listed =
    let n = first_late es q.close in
    let late : AllLate q es n = λ i l u. omega (arith, first_late_at es q.close (omega arith), times_rise es listed n i l u) in
    (late, final_in_time es p q listed n late)

module _ {L : Type 0} (m : Ops L) (laws : Laws m) (es : List Event) (p : ℕ → Bool) (q : Query) (g : Log L) (n : ℕ) (listed : IsTimetable es) (apart : q.from ≡ q.to → ⊥) (right : IsRight m es p q g n) (late : AllLate q es n) where
  -- an entry that ends rightly is a journey that fits, with the entry's label and end
  pub entry_fits : (i : ℕ) (l : L) (o : Predecessor) → EndsRightly m es q g n i l o → (js : List ℕ) × TracesBack g i q.call js × Fits es p q js × (label_of m es js ≡ l) × (ending es js ≡ end_of (event_numbered es i)) × (score_of m es js ≡ m.settle l (end_of (event_numbered es i)))
  entry_fits i l o r =
      let s = spells m laws es p q listed g n right i q.call l o r.0 r.1 in
      let js = s.0 in
      let t = s.1 in
      let f = walk_facts m es p q listed s.3 in
      let at : event_numbered es (last_number js) ≡ event_numbered es i = ap (event_numbered es) s.4 in
      let e : t.end ≡ end_of (event_numbered es i) = f.ends ∙ ap end_of at in
      let rightly : ArrivesRightly q t = (s.5, f.stops ∙ ap reaches_at at ∙ r.2, subst (λ x. x ≤ q.close) (sym e) r.3) in
      let b = (walks_fit m es p q js listed apart).1 t s.3 rightly in (
        js,
        s.2,
        b.0,
        sym b.1 ∙ s.6,
        sym b.2 ∙ e,
        ap (λ x. m.settle x (ending es js)) (sym b.1 ∙ s.6) ∙ ap (m.settle l) (sym b.2 ∙ e),
      )

  -- a journey that fits has an entry that ends rightly and scores no higher
  fits_entry : (js : List ℕ) → Fits es p q js → (i : ℕ) × (l : L) × (o : Predecessor) × EndsRightly m es q g n i l o × (m.settle l (end_of (event_numbered es i)) ≼ score_of m es js)
  fits_entry js f =
      let w = (walks_fit m es p q js listed apart).0 f in
      let t = w.0 in
      let a = walk_facts m es p q listed w.1 in
      let u = final_in_time es p q listed n late js f in
      let x = covers m laws es p q listed g n right t js w.1 u in
      let b = (walks_fit m es p q js listed apart).1 t w.1 w.2 in
      let e = within_ends (event_numbered es (last_number js)) (known_within es p listed (last_number js) a.last_known) in (
        last_number js,
        x.0,
        x.1,
        (u, ap (g (last_number js)) (sym w.2.0) ∙ x.2, f.journey.arrives, f.closes),
        subst (λ y. m.settle x.0 (end_of (event_numbered es (last_number js))) ≼ m.settle y (end_of (event_numbered es (last_number js)))) b.1
            (laws.settles x.0 t.label (end_of (event_numbered es (last_number js))) e x.3),
      )

  pub gives_best : (i : ℕ) (l : L) (o : Predecessor) → EndsRightly m es q g n i l o → IsLowest m es q g n i l → IsLowerBound m es p q (m.settle l (end_of (event_numbered es i)))
  gives_best i l o r low js f =
      let x = fits_entry js f in
      ≼_trans _ _ _ (low x.0 x.1 x.2 x.3) x.4

pub log_gives_best : {L : Type 0} (m : Ops L) → Laws m → LogGivesBest m
log_gives_best m laws es p q g n listed apart right late = (
  (λ i l o r low.
      let x = entry_fits m laws es p q g n listed apart right late i l o r in
      ((x.0, x.1, x.2, x.5), gives_best m laws es p q g n listed apart right late i l o r low)),
  (λ none i l o r. let x = entry_fits m laws es p q g n listed apart right late i l o r in none x.0 x.2),
  (λ none js f. let x = fits_entry m laws es p q g n listed apart right late js f in none x.0 x.1 x.2 x.3),
)
