use Rattle.std.proofs.Common.{drop, ap, ◌∙◌, ◌++◌}
use Rattle.scans.specs.Views.{view}
use Rattle.search.proofs.Tracings.{traced_once}
use Rattle.search.proofs.trace.trace_back.Goals as goal

pub returns-clause-written : goal.returns-clause-written
returns-clause-written g c js t =
    let old = c.args.steps.now in
    ap (λ xs. xs ++ drop c.count_steps-count.result old)
    (traced_once (view c.args.log.now) c.args.last.event c.args.last.called c.write_steps.new.steps js c.write_steps.ensures t)
    ∙ ap (λ n. js ++ drop n old) (c.count_steps-count.ensures.count js t)
