use Rattle.std.proofs.Common.{rules, ap}
use Rattle.journeys.specs.Marks.{is_in_force}
use Rattle.trial_search.proofs.Held.{found_holds, none_behind}
use Rattle.trial_search.proofs.best.best.Goals as goal

pub returns-in_default-clause-best : goal.returns-in_default-clause-best
returns-in_default-clause-best g c =
    λ same.
    let held = c.holds.ensures.1 (found_holds _ _ _ _ _ _ _ _ _ _ _ _ (c.fill.ensures.items (λ _ h. h)) c.in-Ok-Some.ensures.found.1 c.in-Ok-Some.field-0-is same (ap is_in_force c.deref.ensures.value) (search rules)) in
    search (rules, held, c.if-holds.false)

pub returns-in_default-2-clause-best : goal.returns-in_default-2-clause-best
returns-in_default-2-clause-best g c =
    λ same.
    let all = none_behind _ _ _ _ _ _ _ _ (c.fill.ensures.items (λ _ h. h)) c.in-Ok-None.ensures.found.1 c.in-Ok-None.field-0-is in
    search (rules, all, c.is_nonsense_behind.ensures, c.if-is_nonsense_behind.false)
