use Rattle.std.proofs.Common.{rules, Some, ap, refl}
use Rattle.conversations.proofs.Serving.{said_of}
use Rattle.conversations.proofs.service.text_of.Goals as goal

pub returns : goal.returns
returns c =
    said_of _ c.args.lines.now _ c.serve.result _ _ _ (search rules) (ap Some c.new-text.ensures.items) refl (c.serve.ensures c.args.lines.now refl)
