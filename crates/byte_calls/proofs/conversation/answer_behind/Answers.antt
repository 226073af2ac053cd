use Rattle.std.proofs.Common.{◌++◌, subst}
use Rattle.byte_calls.specs.Conversations.{IsPrinted}
use Rattle.byte_calls.proofs.Printing.{front_of}
use Rattle.byte_calls.proofs.conversation.answer_behind.Goals as goal

pub returns-clause-answering : goal.returns-clause-answering
returns-clause-answering g c =
    let r = c.respond-length.ensures.responds in
    record {
      reply = r.reply;
      interprets = r.interprets;
      printed_on =
          λ t p.
          subst (λ x. IsPrinted c.append.result (t ++ x) c.append.new.text) (front_of _ _ _ _ r.written) (c.append.ensures.printed t p);
    }
