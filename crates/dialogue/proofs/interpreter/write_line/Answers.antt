use Rattle.dialogue.proofs.Room.{written_whole}
use Rattle.dialogue.proofs.interpreter.write_line.Goals as goal

pub returns : goal.returns
returns c = rw c.unwrap_or.ensures (written_whole _ _ _ _ _ c.told-out c.requires c.write.ensures.wrote)
