use Rattle.std.proofs.Common.{◌+◌, ◌*◌, [], ◌∷◌, ◌++◌, sym, ◌∙◌, subst, arith}
use Rattle.faults.proofs.Rules.{broken_from_err, kept_from_ok}
use Rattle.blocks.proofs.Fills.{add_bounds, placed_part}
use Rattle.blocks.proofs.Scans.{exit_broken}
use Rattle.blocks.specs.Loads.{Filling, added}
use Rattle.blocks.proofs.load.Load.add.Goals as goal

pub returns-in_err-check_next-clause-value : goal.returns-in_err-check_next-clause-value
returns-in_err-check_next-clause-value c =
    exit_broken _ _ _ _ c.from_residual.ensures.1 (broken_from_err _ _ _ (sym c.check_next.ensures ∙ c.in_err-check_next.was))

pub returns-clause-filling : goal.returns-clause-filling
returns-clause-filling c =
    λ o rs f.
    let r = c.args.bytes.now in
    let n = c.args.self.now.held in
    let k = kept_from_ok _ _ _ (sym c.check_next.ensures ∙ c.in_ok-check_next.was) in
    let bounds = add_bounds c.args.self.now.memory.now n r k in
    subst (λ m. Filling o (rs ++ r ∷ []) m (n + 1))
    (placed_part c.args.self.now.memory.now r _ (16 * n) _ _ c.copy_from_slice.ensures.after (omega arith) (omega (arith, bounds.long))) (added r f k)
