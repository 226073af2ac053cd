use Rattle.std.proofs.Common.{sym, ◌∙◌, subst, arith}
use Rattle.lines.specs.Merges.{DrawsNext, departures_left}
use Rattle.lines.proofs.Drawing.{drawn_bag, known_line, least_left, none_left, queue_bag, ride_left}
use Rattle.lines.proofs.merge.Merge.next_departure.Goals as goal

pub returns-in_err-departure : goal.returns-in_err-departure
returns-in_err-departure c =
    let s = c.args.self.now in
    let none = none_left s.cursors.table s.slots s.used s.bag c.take.new.slots c.take.new.used c.in_err-departure.ensures in
    subst (λ o. DrawsNext (departures_left s.cursors.table) o (departures_left s.cursors.table)) (sym c.from_residual.ensures) (none, none)

pub advance-following-requires : goal.advance-following-requires
advance-following-requires c =
    let s = c.args.self.now in
    let x = c.in_ok-departure.departure in
    let t = c.in_ok-departure.ensures in
    record {
      known = omega (arith, known_line s.cursors.table s.slots s.used s.bag x c.take.new.slots c.take.new.used t, s.cursors.all);
      ride = ride_left s.cursors.table s.slots s.used s.bag x c.take.new.slots c.take.new.used t;
    }

pub invariant_of-self-2 : goal.invariant_of-self-2
invariant_of-self-2 c =
    let s = c.args.self.now in
    let t = c.in_ok-departure.ensures in
    let q = c.put_next.ensures in
    let a = c.advance-following in
    let u = c.put_next.new in
    record {
      long = q.long ∙ t.long ∙ s.long;
      room = omega (arith, q.count, t.count, s.room);
      heaped = q.heaped (t.heaped s.heaped);
      bag = queue_bag s.cursors.table s.slots s.used s.bag c.in_ok-departure.departure c.take.new.slots c.take.new.used t
          a.new.self.table a.ensures.after a.result u.slots u.used a.ensures.next q;
    }

pub returns : goal.returns
returns c =
    let s = c.args.self.now in
    let x = c.in_ok-departure.departure in
    let t = c.in_ok-departure.ensures in
    record {
      bag = drawn_bag s.cursors.table s.slots s.used s.bag x c.take.new.slots c.take.new.used t
          c.advance-following.new.self.table c.advance-following.ensures.after;
      least = least_left s.cursors.table s.slots s.used s.bag x c.take.new.slots c.take.new.used t s.heaped;
      known = omega (arith, known_line s.cursors.table s.slots s.used s.bag x c.take.new.slots c.take.new.used t, s.cursors.all);
    }
