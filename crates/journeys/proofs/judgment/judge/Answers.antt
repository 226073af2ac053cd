use Rattle.std.proofs.Common.{sym, ap, ◌∙◌, rules}
use Rattle.std.proofs.lemmas.Bool.{both_ways}
use Rattle.journeys.specs.Formulas.{along}
use Rattle.journeys.specs.Marks.{is_in_force}
use Rattle.journeys.proofs.Judging.{asked_fits, fits_asked, riding_below_close, verdict_is}
use Rattle.journeys.proofs.judgment.judge.Goals as goal

pub returns-then-not-meets : goal.returns-then-not-meets
returns-then-not-meets g c =
    let es = c.args.events.now in
    let js = c.args.steps.now in
    let start = c.in_ok-first.ensures.value in
    let end = c.in_ok-goal.ensures.value in
    λ f.
    both_ways _ c.if-not-meets.true
    (c.meets.ensures.1
    (fits_asked es (is_in_force c.args.marks.now) c.args.query js _ _ _ _ _ (sym start) (sym end) c.event_numbered-first.ensures c.event_numbered-last.ensures
    c.add_up-totals.ensures f))

pub overflow_cast-result : goal.overflow_cast-result
overflow_cast-result g c =
    let js = c.args.steps.now in
    let start = c.in_ok-first.ensures.value in
    let end = c.in_ok-goal.ensures.value in
    let b =
    riding_below_close c.args.events.now (is_in_force c.args.marks.now) c.args.query js _ _ _ _ _ (sym start) (sym end) c.event_numbered-first.ensures
    c.event_numbered-last.ensures c.add_up-totals.ensures (c.is_chain.ensures.0 c.if-not-is_chain.false)
    (c.meets.ensures.0 c.if-not-meets.false) in
    search rules

pub returns : goal.returns
returns g c =
    let m = g.M.Measure.ops in
    let es = c.args.events.now in
    let p = is_in_force c.args.marks.now in
    let js = c.args.steps.now in
    let start = c.in_ok-first.ensures.value in
    let end = c.in_ok-goal.ensures.value in
    let d = c.event_numbered-first.ensures in
    let e = c.event_numbered-last.ensures in
    let t = c.add_up-totals.ensures in
    let b = c.begin.ensures in (
      asked_fits es p c.args.query js _ _ _ _ _ (sym start) (sym end) d e t (c.is_chain.ensures.0 c.if-not-is_chain.false) (c.meets.ensures.0 c.if-not-meets.false),
      verdict_is es p c.args.query js _ _ _ _ _ (sym start) (sym end) d e t m _ _ _ _ c.starts_at-begin.ensures c.end_of-end.ensures
          (c.label_along-label.ensures ∙ ap (λ x. along m es x js) b) c.settle.ensures,
    )
