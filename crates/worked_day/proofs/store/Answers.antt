use Rattle.std.proofs.Common.{◌≡◌, ℕ, List, [], ◌∷◌, ◌++◌, map, take, sym, refl, ap, ◌∙◌, subst, rules}
use Rattle.std.proofs.lemmas.List.{map_more, take_all}
use Rattle.faults.proofs.Rules.{value_from_ok}
use Rattle.blocks.specs.Loads.{IsFilledWith, Filling, accepted_records, begun}
use Rattle.records.specs.Events.{opening_event}
use Rattle.records.specs.Layout.{layout}
use Rattle.worked_day.proofs.store.Goals as goal

pub loop-event-init : goal.loop-event-init
loop-event-init c =
    let m = c.new-load.result.memory.now in
    (refl, subst (λ n. Filling m [] m n) (sym c.new-load.ensures.held) begun)

pub loop-event-preserved : goal.loop-event-preserved
loop-event-preserved c =
    let es = c.args.events.now in
    let i = c.loop-event.event-index in
    let f = c.add.ensures.filling _ _ c.loop-event.invariant.1 in
    let w = value_from_ok _ _ _ (sym c.write.ensures.value ∙ c.in_ok-record.was) in
    let rs = map layout (take i es) in
    let e =
    ap (λ a. rs ++ accepted_records a c.in_ok-record.record) c.in_ok-add.was
    ∙ ap (λ r. rs ++ r ∷ []) (sym w)
    ∙ sym (map_more layout es i (opening_event 0 0) c.loop-event-test.true) in
    (c.add.ensures.named ∙ c.loop-event.invariant.0, subst (λ x. Filling c.new-load.result.memory.now x c.add.new.self.memory.now c.add.new.self.held) e f)

-- the same memory, by another name
filled_at : (o : List ℕ) (rs : List (List ℕ)) (m m' : List ℕ) (n : ℕ) → m' ≡ m → IsFilledWith o rs m n → IsFilledWith o rs m' n
filled_at o rs m m' n e f = subst (λ x. IsFilledWith o rs x n) (sym e) f

pub returns : goal.returns
returns c =
    let o = c.new-load.ensures.same in
    let a = take_all c.loop-event.event-index c.args.events.now c.loop-event-test.false in
    let f = c.finish.ensures.filled _ _ c.loop-event.invariant.1 in
    let n₀ = c.new-load.ensures.named in
    let n₁ = c.loop-event.invariant.0 in
    filled_at _ _ _ _ _ (search rules) (subst (λ m. IsFilledWith m (map layout c.args.events.now) c.finish.new.self.0 c.finish.result) o (subst (λ es. IsFilledWith c.new-load.result.memory.now (map layout es) c.finish.new.self.0 c.finish.result) a f))
