use Rattle.std.proofs.Common.{rules}
use Rattle.conversations.proofs.LinesRead.{line_read}
use Rattle.conversations.proofs.reading.next_line.Goals as goal

pub returns : goal.returns
returns g c = λ bs e.
    let was = c.in_ok-read_until.ensures in
    line_read _ _ bs _ _ _ e (search rules) was.bytes was.rest (search rules) c.drop_end.ensures
