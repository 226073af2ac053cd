use Rattle.std.proofs.Common.{sym, ◌∙◌, subst}
use Rattle.walks.specs.Logs.{IsAhead}
use Rattle.std.proofs.lemmas.Bool.{both_ways}
use Rattle.search.specs.Readings.{Leads, entry_outcome}
use Rattle.search.proofs.Leading.{leads_kept, leads_lower}
use Rattle.search.proofs.lead.lead.Goals as goal

pub returns-then-is_ahead : goal.returns-then-is_ahead
returns-then-is_ahead g c log at h =
    let m = g.M.Measure.ops in
    let comes = c.in-Some.ensures in
    let there = c.in-Some-leader.first in
    let ahead : IsAhead (entry_outcome m there.event there.entry) (entry_outcome m c.in-Some.comes.event c.in-Some.comes.entry) =
    subst (λ s. IsAhead s (entry_outcome m c.in-Some.comes.event c.in-Some.comes.entry)) c.outcome.ensures
    (subst (λ s. IsAhead c.outcome.result s) c.outcome-2.ensures (c.is_ahead.ensures.0 c.if-is_ahead.true)) in
    leads_kept m c.args.query log c.args.event c.in-Some.comes comes.0 (at ∙ comes.1) comes.2 there ahead
    (subst (Leads m c.args.query log c.args.event) c.in-Some-leader.is h)

pub returns-else-is_ahead : goal.returns-else-is_ahead
returns-else-is_ahead g c log at h =
    let m = g.M.Measure.ops in
    let comes = c.in-Some.ensures in
    let there = c.in-Some-leader.first in
    leads_lower m c.args.query log c.args.event c.in-Some.comes comes.0 (at ∙ comes.1) comes.2 there
    (λ ahead.
    both_ways _ c.if-is_ahead.false
    (c.is_ahead.ensures.1
    (subst (λ s. IsAhead s c.outcome-2.result) (sym c.outcome.ensures)
    (subst (λ s. IsAhead (entry_outcome m there.event there.entry) s) (sym c.outcome-2.ensures) ahead))))
    (subst (Leads m c.args.query log c.args.event) c.in-Some-leader.is h)
