use Rattle.std.proofs.Common.{◌∙◌, ap, subst, sym, drop, length, ◌++◌, Some, None}
use Rattle.journeys.specs.Marks.{is_in_force}
use Rattle.search.specs.Readings.{Travels}
use Rattle.search.proofs.Searching.{backward, journey, travelled_none, travelled_some}
use Rattle.search.proofs.finder.travel.Goals as goal

pub returns-in_err-leader-clause-travelled : goal.returns-in_err-leader-clause-travelled
returns-in_err-leader-clause-travelled g c =
    let es = g.S.Source.events c.args.source.now in
    let steps = c.args.tables.now.steps.now in
    let steps' = c.read_up-reach.new.tables.steps.now in
    subst (λ r. Travels g.M.Measure.ops es (is_in_force c.args.marks.now) c.args.query steps r steps') (sym c.from_residual.ensures)
    (subst (λ q. Travels g.M.Measure.ops es (is_in_force c.args.marks.now) q steps None steps') c.query-asked.ensures.query
    (travelled_none g.M.Measure.ops g.met.M.Measure.laws es _ _ (g.S.Source.listed c.args.source.now) c.query-asked.ensures.rules _ _
    c.read_up-reach.ensures.log steps steps' c.in_err-leader.ensures c.read_up-reach.ensures.steps))

pub trace_back-requires-clause-backward : goal.trace_back-requires-clause-backward
trace_back-requires-clause-backward g c =
    backward g.M.Measure.ops g.met.M.Measure.laws _ _ _ (g.S.Source.listed c.args.source.now) _ _ c.read_up-reach.ensures.log

pub trace_back-requires-clause-traced : goal.trace_back-requires-clause-traced
trace_back-requires-clause-traced g c =
    journey g.M.Measure.ops g.met.M.Measure.laws _ _ _ (g.S.Source.listed c.args.source.now) c.query-asked.ensures.rules _ _
    c.read_up-reach.ensures.log c.in_ok-leader.leader c.in_ok-leader.ensures

pub returns-clause-travelled : goal.returns-clause-travelled
returns-clause-travelled g c =
    let es = g.S.Source.events c.args.source.now in
    let old = c.args.tables.now.steps.now in
    let leader = c.in_ok-leader.leader in
    let found = Some (record { label = leader.entry.label; end = leader.entry.end; steps = c.trace_back.result; reads = c.read_up-reach.result.reads }) in
    subst (λ q. Travels g.M.Measure.ops es (is_in_force c.args.marks.now) q old found c.trace_back.new.steps) c.query-asked.ensures.query
    (travelled_some g.M.Measure.ops g.met.M.Measure.laws es _ _ (g.S.Source.listed c.args.source.now) c.query-asked.ensures.rules _ _
    c.read_up-reach.ensures.log leader c.in_ok-leader.ensures old c.trace_back.new.steps c.trace_back.result _
    c.trace_back.ensures.count
    (λ js t. c.trace_back.ensures.written js t ∙ ap (λ xs. js ++ drop (length js) xs) c.read_up-reach.ensures.steps)
    c.read_up-reach.ensures.source.reads)
