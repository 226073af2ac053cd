use Rattle.byte_calls.proofs.Printing.{fault_said}
use Rattle.byte_calls.proofs.conversation.say.Goals as goal

pub returns-in-Err-clause-said : goal.returns-in-Err-clause-said
returns-in-Err-clause-said c =
    fault_said _ c.in-Err.fault c.args.lines.now _ _ _ c.in-Err.ensures.value c.requires c.write.ensures.short c.write.ensures.wrote
