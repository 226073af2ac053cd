use Rattle.std.proofs.Common.{◌≡◌, List, length, Some, Ok, Err, Result, MatchResult, OnErr, Vec, sym, ◌∙◌, subst}
use Rattle.std.proofs.lemmas.List.{with_items_is}
use Rattle.std.specs.Vec.{with_items}
use Rattle.faults.specs.Rules.{IsKept, first_fault}
use Rattle.journeys.specs.Marks.{is_in_force}
use Rattle.search.specs.Lengths.{lengths_in, table_rules}
use Rattle.search.specs.Searches.{FindsBest}
use Rattle.heap_tables.proofs.HeapTables.search.Goals as goal

-- what holds of lists holds of their equals
of_equals : {A B C D : Type 0} (P : List A → List B → List C → List D → List D → Type 0) {a a' : List A} {b b' : List B} {c c' : List C} {d d' n n' : List D}
    → a ≡ a' → b ≡ b' → c ≡ c' → d ≡ d' → n ≡ n' → P a b c d n → P a' b' c' d' n'
of_equals P {a} {a'} {b} {b'} {c} {c'} {d} {d'} {n} {n'} e f g h k p =
    subst (P a' b' c' d') k
    (subst (λ x. P a' b' c' x n) h (subst (λ x. P a' b' x d n) g (subst (λ x. P a' x c d n) f (subst (λ x. P x b c d n) e p))))

-- a vector that was lent as a slice, and is as it was where the slice is
put_back : {T E X Z : Type 0} (r : Result T E) (v : Vec X Z) (ws lent : List X) → length ws ≡ v.len → lent ≡ v.items → OnErr r (ws ≡ lent)
    → OnErr r ((with_items v ws).items ≡ v.items)
put_back (Ok _) v ws lent l e h = h
put_back (Err _) v ws lent l e h = with_items_is v ws l ∙ h ∙ e

-- what each holds at a refusal, all hold
all_refused : (A B C D : Type 0) {T E : Type 0} (r : Result T E) → OnErr r A → OnErr r B → OnErr r C → OnErr r D → OnErr r (A × B × C × D)
all_refused A B C D (Ok _) a b c d = a
all_refused A B C D (Err _) a b c d = (a, b, c, d)

pub returns-clause-found : goal.returns-clause-found
returns-clause-found g c =
    let es = g.S.Source.events c.args.source.now in
    of_equals
    (λ log board queue steps steps'.
    let rules = table_rules (length es) (lengths_in log board queue steps) in
    MatchResult c.search_in.result
    (λ o. IsKept rules × FindsBest g.M.Measure.ops es (is_in_force c.args.marks.now) c.args.query steps o steps')
    (λ f. first_fault rules ≡ Some f))
    c.deref_mut.ensures.value c.deref_mut-2.ensures.value c.deref_mut-3.ensures.value c.deref_mut-4.ensures.value
    (sym (with_items_is c.args.self.now.steps c.search_in.new.steps (c.search_in.auto.steps ∙ c.deref_mut-4.ensures.len)))
    c.search_in.ensures.found

pub returns-clause-refused : goal.returns-clause-refused
returns-clause-refused g c =
    let t = c.args.self.now in
    let s = c.search_in in
    all_refused
    ((with_items t.log s.new.log).items ≡ t.log.items)
    ((with_items t.board s.new.board).items ≡ t.board.items)
    ((with_items t.queue s.new.queue).items ≡ t.queue.items)
    ((with_items t.steps s.new.steps).items ≡ t.steps.items)
    s.result
    (put_back s.result t.log s.new.log _ (s.auto.log ∙ c.deref_mut.ensures.len) c.deref_mut.ensures.value s.ensures.log)
    (put_back s.result t.board s.new.board _ (s.auto.board ∙ c.deref_mut-2.ensures.len) c.deref_mut-2.ensures.value s.ensures.board)
    (put_back s.result t.queue s.new.queue _ (s.auto.queue ∙ c.deref_mut-3.ensures.len) c.deref_mut-3.ensures.value s.ensures.queue)
    (put_back s.result t.steps s.new.steps _ (s.auto.steps ∙ c.deref_mut-4.ensures.len) c.deref_mut-4.ensures.value s.ensures.steps)
