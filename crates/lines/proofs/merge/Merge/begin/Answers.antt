use Rattle.std.proofs.Common.{sum_by, sym, ap, ◌∙◌, subst, arith}
use Rattle.std.proofs.lemmas.List.{length-take, take_all}
use Rattle.std.proofs.lemmas.List.Sorted.{sum_by-IsPermutation}
use Rattle.lines.specs.Departures.{departures, runs}
use Rattle.lines.specs.Merges.{QueuesNext, cursor_of, departures_left_of, departures_left}
use Rattle.lines.proofs.Drawing.{Filled, filled_more}
use Rattle.lines.proofs.Gathers.{gather-map}
use Rattle.lines.proofs.Orders.{sorted_shuffled}
use Rattle.lines.proofs.merge.Merge.begin.Goals as goal

pub put_next-requires : goal.put_next-requires
put_next-requires c =
    omega (arith, c.loop-line.invariant.count, length-take c.loop-line.line c.of-cursors.result.table)

pub loop-line-preserved : goal.loop-line-preserved
loop-line-preserved c =
    let cs = c.of-cursors.result in
    let s = c.loop-line in
    let q = subst (λ o. QueuesNext s.slots s.used o c.put_next.new.slots c.put_next.new.used) c.next.ensures c.put_next.ensures in
    filled_more cs.table s.line s.slots s.used c.put_next.new.slots c.put_next.new.used (omega (arith, cs.all)) s.invariant q

pub invariant_of-result : goal.invariant_of-result
invariant_of-result c =
    let cs = c.of-cursors.result in
    let s = c.loop-line in
    let f = subst (λ l. Filled l s.slots s.used) (take_all s.line cs.table (omega (arith, cs.all))) s.invariant in
    record { long = f.long; room = omega (arith, f.count, cs.all); heaped = f.heaped; bag = f.bag }

pub returns : goal.returns
returns c =
    λ f.
    let ls = c.args.lines.now.lines in
    ap (λ l. sum_by f (departures_left l)) c.of-cursors.ensures
    ∙ ap (sum_by f) (gather-map departures_left_of cursor_of 0 ls)
    ∙ sym (sum_by-IsPermutation f (runs ls) (departures ls) (sorted_shuffled (runs ls)))
