use Rattle.std.proofs.Common.{sym}
use Rattle.byte_calls.proofs.Restored.{copied_back, restored}
use Rattle.byte_calls.proofs.loading.load_records.Goals as goal

pub returns-then-is_err : goal.returns-then-is_err
returns-then-is_err c =
    let value = c.if-is_err.ensures.value in
    let then = c.copy_from_slice-then-is_err.ensures in
    let copied = c.copy_from_slice.ensures in
    restored c.args.memory.now c.args.records.now _ _ _ _ (sym value) c.fill-loaded.ensures c.min-most.ensures (copied_back _ _ _ _ _ c.min-most.ensures copied.after then.after)
