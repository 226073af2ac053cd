use Rattle.std.proofs.Common.{Err, sym, subst}
use Rattle.faults.specs.declared.Fault.TheVariants.{NotACommand}
use Rattle.commands.specs.Grammar.{IsAnswered}
use Rattle.commands.proofs.Lines.{answered_at, refused_at}
use Rattle.commands.proofs.Placing.{short_texts}
use Rattle.commands.proofs.Texts.{reads_from_answered, unique}
use Rattle.commands.proofs.reader.parse.Goals as goal

pub returns-in_default : goal.returns-in_default
returns-in_default c =
    let line = c.args.line.now in
    let l = c.loop-place in
    let r = refused_at line l.place l.state l.invariant.0 l.invariant.1 c.loop-place-test.true c.in_default.ensures in
    record { value = r; reads = reads_from_answered line (Err (NotACommand l.place)) r; unique = unique; short = short_texts }

pub returns : goal.returns
returns c =
    let line = c.args.line.now in
    let l = c.loop-place in
    let a = answered_at line l.place l.state l.invariant.0 l.invariant.1 c.loop-place-test.false c.command_at_end.result c.command_at_end.ensures in
    let b = subst (IsAnswered line) (sym c.ok_or.ensures.value) a in
    record { value = b; reads = reads_from_answered line c.ok_or.result b; unique = unique; short = short_texts }
