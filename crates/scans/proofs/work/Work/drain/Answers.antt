use Rattle.std.proofs.Common.{◌≡◌, refl, ap, arith, rules}
use Rattle.scans.specs.Tables.{contents}
use Rattle.scans.proofs.Accounting.{accounts_drained, accounts_later, accounts_still}
use Rattle.scans.proofs.work.Work.drain.Goals as goal

pub loop-arrival-init : goal.loop-arrival-init
loop-arrival-init g c =
    record {
      fewer = omega arith;
      log = refl;
      accounts = λ k t h a. accounts_later g.M.Measure.ops g.met.M.Measure.laws (contents c.args.self.now) k t c.args.minute a h;
      same = search rules;
    }

pub loop-arrival-preserved : goal.loop-arrival-preserved
loop-arrival-preserved g c =
    let m = g.M.Measure.ops in
    let minute = c.args.minute in
    let due = c.in-Some.ensures in
    let used : c.bring.new.self.used ≡ c.take_due.new.used = ap (λ x. x.used) c.bring.ensures.brought in
    record {
      fewer = omega (arith, due.0.count, used);
      log = search rules;
      accounts =
          λ k t h a.
          let here = c.loop-arrival.invariant.accounts k t h a in
          accounts_drained m g.met.M.Measure.laws (contents c.loop-arrival.self) k minute minute here (omega arith) c.in-Some.arrival
          c.take_due.new.queue c.take_due.new.used due.0 (due.1 here.heaped) (contents c.bring.new.self) c.bring.ensures.brought;
      same = search rules;
    }

pub returns-clause-accounts : goal.returns-clause-accounts
returns-clause-accounts g c k t h a =
    accounts_still g.M.Measure.ops (contents c.loop-arrival.self) k c.args.minute c.take_due.new.queue c.take_due.new.used c.in_default.ensures
    (c.loop-arrival.invariant.accounts k t h a)
