use Rattle.std.proofs.Common.{sym, ◌∙◌, subst}
use Rattle.faults.specs.Rules.{IsKept}
use Rattle.faults.proofs.Rules.{kept_from_ok}
use Rattle.journeys.specs.Marks.{is_in_force}
use Rattle.search.specs.Lengths.{table_rules}
use Rattle.search.specs.Tables.{lengths}
use Rattle.search.proofs.Searching.{told_found}
use Rattle.search.proofs.finder.search.Goals as goal

pub returns-clause-found : goal.returns-clause-found
returns-clause-found g c =
    let kept = kept_from_ok _ _ _ (sym c.check.ensures ∙ c.in_ok-check.was) in (
      subst (λ n. IsKept (table_rules n (lengths c.args.tables.now))) c.size.ensures kept,
      told_found g.M.Measure.ops (g.S.Source.events c.args.source.now) (is_in_force c.args.marks.now) c.args.query
          (g.S.Source.listed c.args.source.now) c.args.tables.now.steps.now c.travel-arrived.result c.answer_if_any.result
          c.travel-arrived.new.tables.steps.now c.answer_if_any.ensures c.travel-arrived.ensures.travelled,
    )
