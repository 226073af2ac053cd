use Rattle.std.proofs.Common.{ℕ, ◌<◌, get_or, sym, ap, ◌∙◌, subst, arith}
use Rattle.std.specs.List.{AllByRecursion, concat}
use Rattle.faults.proofs.Rules.{kept_from_ok}
use Rattle.records.specs.Limits.{most_events}
use Rattle.blocks.specs.Rows.{count}
use Rattle.blocks.proofs.Lists.{listed_records}
use Rattle.blocks.proofs.Records.{concat-first_chunks, sized, bytes_first_chunks}
use Rattle.blocks.proofs.block.Block.open.Goals as goal

pub returns-clause-same : goal.returns-clause-same
returns-clause-same c =
    let bs = c.args.bytes.now in
    let s = sized most_events bs c.in_ok-rows.rows.now c.in_ok-rows.ensures in
    ap concat s.records ∙ concat-first_chunks (count bs) bs s.whole

pub invariant_of-result : goal.invariant_of-result
invariant_of-result c =
    let bs = c.args.bytes.now in
    let s = sized most_events bs c.in_ok-rows.rows.now c.in_ok-rows.ensures in
    record {
      listed = listed_records c.in_ok-rows.rows.now (kept_from_ok _ _ _ (sym c.check_each.ensures ∙ c.in_ok-check_each.was)) s.few
          (subst (AllByRecursion (λ r. (j : ℕ) → j < 16 → get_or r j 0 < 256)) (sym s.records) (bytes_first_chunks (count bs) bs (λ i. omega (arith, (c.type_inv.bytes i).fits))));
    }
