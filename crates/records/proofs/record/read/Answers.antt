use Rattle.std.proofs.Common.{◌≡◌, Ok, arith}
use Rattle.std.proofs.lemmas.Grind.{common_steps}
use Rattle.faults.proofs.Rules.{kept_from_ok}
use Rattle.records.specs.Layout.{reading}
use Rattle.records.proofs.RoundTrip.{layout-event_in}
use Rattle.records.proofs.record.read.Goals as goal

pub returns-clause-only_record : goal.returns-clause-only_record
returns-clause-only_record c =
    let bs = c.args.bytes.now in
    let v : reading c.args.place bs ≡ Ok c.fields-event.result = grind (arith, common_steps) in
    rw c.fields-event.ensures (layout-event_in c.args.place bs c.fits-bytes c.told-bytes (kept_from_ok _ _ _ v))
