-- Tracing back, stage by stage.
use Rattle.std.proofs.Common.{◌≡◌, ℕ, ◌+◌, ◌-◌, ◌<◌, ◌≤◌, Bool, List, [], ◌∷◌, ◌++◌, length, drop, set, Some, None, Option, sym, refl, ap, ◌∙◌, subst, append_assoc, arith, length-append, length-set}
use Rattle.std.proofs.lemmas.List.{append-nil, drop-set, drop_all}
use Rattle.std.specs.Option.{option_map}
use Rattle.std.proofs.lemmas.Option.{none-some, same_Some}
use Rattle.walks.specs.Logs.{Log, TracesBack, after, first, start, then}
use Rattle.walks.specs.Logs as logs
use Rattle.scans.specs.declared.entry.Entry.{Entry}
use Rattle.scans.specs.declared.entry.Stage.{Stage}
use Rattle.scans.specs.Boards.{entry_for}
use Rattle.search.specs.Tracing.{IsBackward, before_entry, stage_before}
use Rattle.scans.specs.Views.{log_entry, predecessor_of, view}

-- what tracing spells from a stage on, and nothing where there is no stage
abbrev pub Rest : {L : Type 0} → Log L → Option Stage → List ℕ → Type 0
Rest g None ks = ks ≡ []
Rest g (Some s) ks = TracesBack g s.event s.called ks

-- the stage before is an earlier event
pub before_earlier : {L : Type 0} (log : List (Option (Entry L))) (s b : Stage) → IsBackward log → stage_before log s ≡ Some b → b.event < s.event
before_earlier {L} log s b backward = by_entry (entry_for log s.event s.called) refl
  where
    by_entry : (r : Option (Entry L)) → entry_for log s.event s.called ≡ r → before_entry r ≡ Some b → b.event < s.event
    by_entry None l h = absurd (none-some _ h)
    by_entry (Some e) l h = backward s.event s.called e b l h

-- the stage that a predecessor names
abbrev stage_of : logs.Predecessor → Option Stage
stage_of start = None
stage_of (after j b) = Some (record { event = j; called = b })

-- the stage before is the one that the entry's predecessor names
before_stage : {L : Type 0} (r : Option (Entry L)) (l : L) (o : logs.Predecessor) → option_map log_entry r ≡ Some (l, o) → before_entry r ≡ stage_of o
before_stage None l o h = absurd (none-some _ h)
before_stage (Some e) l o h = by_predecessor e.predecessor ∙ ap (λ x. stage_of x.1) (same_Some _ _ h)
  where
    by_predecessor : (a : Option Stage) → a ≡ stage_of (predecessor_of a)
    by_predecessor None = refl
    by_predecessor (Some b) = refl

-- what is traced ends with its stage, after what is traced from the stage before
pub traced_back : {L : Type 0} (log : List (Option (Entry L))) (i : ℕ) (c : Bool) (o : Option Stage) (js : List ℕ) → o ≡ before_entry (entry_for log i c) → TracesBack (view log) i c js → (ks : List ℕ) × Rest (view log) o ks × (js ≡ ks ++ i ∷ [])
traced_back log _ _ o _ e (first i c l h) = ([], subst (λ x. Rest (view log) x []) (sym (e ∙ before_stage (entry_for log i c) l start h)) refl, refl)
traced_back log _ _ o _ e (then i c l j b ks h t) = (
  ks,
  subst (λ x. Rest (view log) x ks) (sym (e ∙ before_stage (entry_for log i c) l (after j b) h)) t,
  refl,
)

-- what is traced has a step
traced_long : {L : Type 0} {g : Log L} {i : ℕ} {c : Bool} {js : List ℕ} → TracesBack g i c js → 1 ≤ length js
traced_long (first i c l h) = omega arith
traced_long (then i c l j b ks h t) = simp length-append (omega arith)

-- an entry has one predecessor
predecessor_once : {L : Type 0} {x : Option (L × logs.Predecessor)} {l m : L} {o u : logs.Predecessor} → x ≡ Some (l, o) → x ≡ Some (m, u) → o ≡ u
predecessor_once h k = ap (λ x. x.1) (same_Some _ _ (sym h ∙ k))

-- tracing from a stage spells one list
pub traced_once : {L : Type 0} (g : Log L) (i : ℕ) (c : Bool) (js ks : List ℕ) → TracesBack g i c js → TracesBack g i c ks → js ≡ ks
traced_once g _ _ _ _ (first i c l h) (first _ _ m k) = refl
traced_once g _ _ _ _ (first i c l h) (then _ _ m j b qs k t) =
    let o = predecessor_once h k in
    let z : ◌≡◌ {A = ℕ} 0 1 = cc in
    absurd (omega arith)
traced_once g _ _ _ _ (then i c l j b ps h s) (first _ _ m k) =
    let o = predecessor_once h k in
    let z : ◌≡◌ {A = ℕ} 0 1 = cc in
    absurd (omega arith)
traced_once g _ _ _ _ (then i c l j b ps h s) (then _ _ m n d qs k t) =
    let o = predecessor_once h k in
    let e : n ≡ j = cc in
    let f : d ≡ b = cc in
    ap (λ xs. xs ++ i ∷ []) (traced_once g j b ps qs s (subst (λ x. TracesBack g x b qs) e (subst (λ x. TracesBack g n x qs) f t)))

-- while a journey is written from its end: what is left of it, before what stands from the place on, is the whole
pub record Writing {L : Type 0} (g : Log L) (last next : Option Stage) (written : List ℕ) (place : ℕ) : Type 0 where
  pub js : List ℕ
  pub ks : List ℕ
  pub whole : Rest g last js
  pub left : Rest g next ks
  pub many : place ≡ length ks
  pub room : place ≤ length written
  pub makes : ks ++ drop place written ≡ js

-- a slot written before those that are written already
written_back : (ks xs : List ℕ) (n i : ℕ) → n < length xs → ks ++ drop n (set xs n i) ≡ (ks ++ i ∷ []) ++ drop (n + 1) xs
written_back ks xs n i h = ap (λ ys. ks ++ ys) (drop-set xs n i h) ∙ sym (append_assoc ks (i ∷ []) (drop (n + 1) xs))

module _ {L : Type 0} {g : Log L} {last next : Option Stage} {written : List ℕ} {place : ℕ} (w : Writing g last next written place) where
  -- there is a place for the step that is written next
  pub writing_place : {s : Stage} → next ≡ Some s → 1 ≤ place
  writing_place e = omega (arith, w.many, traced_long (subst (λ x. Rest g x w.ks) e w.left))

module _ {L : Type 0} (log : List (Option (Entry L))) where
  -- nothing is written yet, and there are as many slots as steps
  pub writing_start : (last : Stage) (slots : List ℕ) → (js : List ℕ) × TracesBack (view log) last.event last.called js × (length slots ≡ length js) → Writing (view log) (Some last) (Some last) slots (length slots)
  writing_start last slots (js, traced, long) =
      record {
        js = js;
        ks = js;
        whole = traced;
        left = traced;
        many = long;
        room = omega arith;
        makes = ap (λ xs. js ++ xs) (drop_all (length slots) slots (omega arith)) ∙ append-nil js;
      }

  module _ {last : Stage} {next : Option Stage} {written : List ℕ} {place : ℕ} (w : Writing (view log) (Some last) next written place) where
    -- one step more is written
    pub writing_more : (s : Stage) (before : Option Stage) (number : ℕ) → next ≡ Some s → before ≡ stage_before log s → number ≡ s.event → Writing (view log) (Some last) before (set written (place - 1) number) (place - 1)
    writing_more s before number e b same =
        let n : set written (place - 1) number ≡ set written (place - 1) s.event = ap (set written (place - 1)) same in
        let back = traced_back log s.event s.called before w.ks b (subst (λ x. Rest (view log) x w.ks) e w.left) in
        let long : length w.ks ≡ length back.0 + 1 = simp length-append at (ap length back.2) in
        let within : place - 1 < length written = omega (arith, w.many, w.room) in
        let one : place - 1 + 1 ≡ place = omega (arith, w.many) in
        record {
          js = w.js;
          ks = back.0;
          whole = w.whole;
          left = back.1;
          many = omega (arith, w.many);
          room = omega (arith, ap length n, length-set written (place - 1) s.event);
          makes =
              ap (λ xs. back.0 ++ drop (place - 1) xs) n
              ∙ written_back back.0 written (place - 1) s.event within
              ∙ ap (λ k. (back.0 ++ s.event ∷ []) ++ drop k written) one
              ∙ ap (λ xs. xs ++ drop place written) (sym back.2)
              ∙ w.makes;
        }

    -- every step is written
    pub writing_all : next ≡ None → TracesBack (view log) last.event last.called written
    writing_all e =
        let none : w.ks ≡ [] = subst (λ x. Rest (view log) x w.ks) e w.left in
        let zero : place ≡ 0 = w.many ∙ ap length none in
        subst (TracesBack (view log) last.event last.called)
        (sym w.makes ∙ ap (λ xs. xs ++ drop place written) none ∙ ap (λ k. drop k written) zero) w.whole
