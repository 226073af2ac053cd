use Rattle.std.proofs.Common.{◌≡◌, min, length, ◌++◌, sym, refl, ap, ◌∙◌, subst, rules}
use Rattle.std.proofs.lemmas.Result.{err_from_is_err_and}
use Rattle.faults.proofs.Rules.{broken_from_err}
use Rattle.blocks.specs.Loads.{Filling, accepted_records, begun}
use Rattle.byte_calls.proofs.Filled.{Underway, fills_at, kept_after, underway_begun, underway_ends, underway_on, underway_stops}
use Rattle.byte_calls.proofs.loading.fill.Goals as goal

pub loop-record-init : goal.loop-record-init
loop-record-init c =
    let o = c.new-load.result.memory.now in
    let start = c.into_iter-record-iterator.ensures.into_iter_gives in
    let bytes = ap (λ x. x.rest.now) start ∙ c.chunks-record-items.ensures.rest in
    record {
      named = refl;
      size = ap (λ x. x.size) start ∙ c.chunks-record-items.ensures.size;
      underway =
          subst (λ x. Underway o c.args.records.now x o c.new-load.result.held) (sym bytes)
          (subst (λ n. Underway o c.args.records.now c.args.records.now o n) (sym c.new-load.ensures.held) (underway_begun o c.args.records.now begun));
    }

pub loop-record-preserved : goal.loop-record-preserved
loop-record-preserved c =
    let step = c.in-Some.ensures.steps in
    let u = c.loop-record.invariant.underway in
    let f = c.add.ensures.filling c.new-load.result.memory.now u.held u.filling in
    record {
      named = c.add.ensures.named ∙ c.loop-record.invariant.named;
      size = step.0 ∙ c.loop-record.invariant.size;
      underway =
          underway_on _ _ _ c.in-Some.record.now _ _ _ _ _ step.1.0 u
          (subst (λ a. Filling c.new-load.result.memory.now (u.held ++ accepted_records a c.in-Some.record.now) c.add.new.self.memory.now c.add.new.self.held) c.in_ok-add.was f);
    }

pub returns-in_err-add : goal.returns-in_err-add
returns-in_err-add c =
    let step = c.in-Some.ensures.steps in
    let u = c.loop-record.invariant.underway in
    let named = c.add.ensures.named ∙ c.loop-record.invariant.named ∙ c.new-load.ensures.named in
    let refused = c.in_err-add.was in
    let kept : c.add.new.self.memory.now ≡ c.loop-record.load.memory.now = kept_after _ _ _ _ _ refused c.add.ensures.after in
    let p = err_from_is_err_and c.from_residual.result c.from_residual.ensures.1 in
    let cut = step.1.1 ∙ ap (λ k. min k (length c.loop-record.record-iterator.rest.now)) c.loop-record.invariant.size in
    rw (p.1, p.2) (underway_stops _ _ _ c.in-Some.record.now _ _ _ _ _ step.1.0 cut step.1.2 (search rules)
    (subst (λ x. Underway x c.args.records.now c.loop-record.record-iterator.rest.now c.loop-record.load.memory.now c.loop-record.load.held) c.new-load.ensures.same u)
    (broken_from_err _ _ _ (sym c.add.ensures.value ∙ refused)))

pub returns : goal.returns
returns c =
    let u = c.loop-record.invariant.underway in
    let n₀ = c.new-load.ensures.named in
    let n₁ = c.loop-record.invariant.named in
    fills_at _ _ _ _ _ _ (search rules) c.new-load.ensures.same
    (underway_ends _ _ _ _ _ _ _ c.in-None.ensures.steps.1.0 u (c.finish.ensures.filled _ _ u.filling))
