use Rattle.std.proofs.Common.{rules}
use Rattle.std.proofs.KnownBytes.{Appends-kept}
use Rattle.conversations.proofs.Writes.{of_ok, on_ok}
use Rattle.conversations.proofs.writing.write_and_flush.Goals as goal

pub returns : goal.returns
returns g c =
    let counted = c.write_counted-written in
    record {
      count = counted.result.0;
      front = Appends-kept _ _ _ _ counted.ensures.taken c.flush.ensures.bytes;
      whole = on_ok c.flush.result (of_ok counted.result.1 (search rules) counted.ensures.all);
    }
