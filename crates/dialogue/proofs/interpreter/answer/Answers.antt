use Rattle.std.proofs.Common.{Err, refl, ap, subst, arith}
use Rattle.std.proofs.lemmas.Result.{err_from_is_err_and}
use Rattle.dialogue.specs.Obeying.{Obeys, session}
use Rattle.dialogue.proofs.Continuing.{extends_itself, obeys_extends}
use Rattle.dialogue.proofs.Lengths.{obeys_short, unknown_line_short}
use Rattle.dialogue.proofs.Refusals.{ok_same, one_refusal}
use Rattle.dialogue.proofs.interpreter.answer.Goals as goal

pub returns-clause-interprets : goal.returns-clause-interprets
returns-clause-interprets g c =
    let parsed = c.in_ok-parse.ensures in
    let command = c.in_ok-parse.field-0 in
    let b = session c.args.post.now c.args.tables.now in
    let a = session c.obey.new.post c.obey.new.tables in
    let same = c.obey.ensures.same in
    record {
      obeys = λ d spells. subst (λ x. Obeys b x c.obey.result a) (ok_same (parsed.reads d spells)) c.obey.ensures.obeys;
      refuses = λ f r. absurd (r.none command parsed.value);
      history = obeys_extends b c.obey.result a command c.obey.ensures.obeys;
      room = (same.0.1, same.1.1, same.2.1, same.3.1, same.4.1, same.5.1);
      short = obeys_short b c.obey.result a command parsed.value.0 c.obey.ensures.obeys;
    }

pub returns-in_err-parse-clause-interprets : goal.returns-in_err-parse-clause-interprets
returns-in_err-parse-clause-interprets g c =
    let refused = c.in_err-parse.ensures.value in
    let p = err_from_is_err_and c.from_residual.result c.from_residual.ensures.1 in
    rw (p.1, p.2) (record {
      obeys = λ command spells. absurd (refused.none command spells);
      refuses = λ f r. (ap Err (one_refusal c.args.line.now c.in_err-parse.field-0.0 f refused r), refl);
      history = extends_itself _;
      room = (refl, refl, refl, refl, refl, refl);
      short = unknown_line_short refused.place c.args.tables.now.steps.now c.in_err-parse.field-0.0 (omega (arith, refused.within, c.well_formed)) refused.fault;
    })
