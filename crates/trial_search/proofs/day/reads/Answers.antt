use Rattle.std.proofs.Common.{◌≡◌, ap, ◌∙◌, arith}
use Rattle.search.specs.Searches.{reads_of}
use Rattle.trial_search.proofs.InTime.{in_time_is}
use Rattle.trial_search.proofs.day.reads.Goals as goal

pub returns : goal.returns
returns c =
    let es = c.deref.result.now in
    let first = in_time_is es c.args.close in
    let read : c.min.result ≡ reads_of es c.args.close =
    omega (arith, first, c.in_time.ensures, c.saturating_add.ensures, c.len.ensures, c.min.ensures, c.deref.ensures.len, c.deref.type_inv) in
    read ∙ ap (λ x. reads_of x c.args.close) c.deref.ensures.value
