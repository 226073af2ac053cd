use Rattle.std.proofs.Common.{◌+◌, sym, ap, ◌∙◌, subst, rules, arith}
use Rattle.std.proofs.lemmas.Bool.{ltb-false, ltb-true}
use Rattle.records.specs.Events.{time_of}
use Rattle.journeys.specs.Marks.{is_in_force}
use Rattle.scans.specs.Tables.{contents}
use Rattle.search.specs.Readings.{IsReadTo, IsRightLog}
use Rattle.sources.proofs.Readings.{reading_falls}
use Rattle.search.proofs.Readings.{read_all, read_late, right_all, right_late, standing_more}
use Rattle.search.proofs.read.read_on.Goals as goal

pub loop-event-preserved : goal.loop-event-preserved
loop-event-preserved g c =
    record {
      stands =
          standing_more _ _ _ _ (g.S.Source.listed c.rewind.new.self) _ _ _ _ c.loop-event.invariant.stands _ _ c.in-Some.event c.in-Some.ensures
          c.is_in_force-in_force.result (c.is_in_force-in_force.ensures ∙ ap (is_in_force c.args.marks.now) c.from-in-Some.ensures)
          (ltb-false c.args.query.close (time_of c.in-Some.event) (sym c.is_later.ensures ∙ c.if-is_later.false)) (contents c.scan.new.self)
          c.scan.result c.scan.ensures.scan c.scan.ensures.same.0.1 c.scan.ensures.same.2.1;
      same = search rules;
    }

pub loop-event-smaller : goal.loop-event-smaller
loop-event-smaller g c = reading_falls _ _ c.in-Some.event _ _ c.in-Some.ensures

pub returns-then-is_later-clause-source : goal.returns-then-is_later-clause-source
returns-then-is_later-clause-source g c =
    subst
    (λ es. IsReadTo es c.args.query.close (c.from.result + 1) (g.S.Source.events c.next.new.self) (g.S.Source.place c.next.new.self))
    c.rewind.ensures.same
    (read_late _ _ _ _ (g.S.Source.listed c.rewind.new.self) _ _ _ _ c.loop-event.invariant.stands _ _ c.in-Some.event c.in-Some.ensures
    (ltb-true c.args.query.close (time_of c.in-Some.event) (sym c.is_later.ensures ∙ c.if-is_later.true)) (c.from.result + 1) (omega (arith, c.from.ensures)))

pub returns-then-is_later-clause-log : goal.returns-then-is_later-clause-log
returns-then-is_later-clause-log g c =
    subst
    (λ es. IsRightLog g.M.Measure.ops es (is_in_force c.args.marks.now) c.args.query c.loop-event.number c.loop-event.work.log.now)
    c.rewind.ensures.same
    (right_late _ _ _ _ (g.S.Source.listed c.rewind.new.self) _ _ _ _ c.loop-event.invariant.stands _ _ c.in-Some.event c.in-Some.ensures
    (ltb-true c.args.query.close (time_of c.in-Some.event) (sym c.is_later.ensures ∙ c.if-is_later.true)))

pub returns-clause-source : goal.returns-clause-source
returns-clause-source g c =
    subst
    (λ es. IsReadTo es c.args.query.close c.from-2.result (g.S.Source.events c.next.new.self) (g.S.Source.place c.next.new.self))
    c.rewind.ensures.same
    (read_all _ _ _ _ (g.S.Source.listed c.rewind.new.self) _ _ _ _ c.loop-event.invariant.stands _ _ (g.S.Source.within c.loop-event.source)
    c.in_default.ensures c.from-2.result c.from-2.ensures)

pub returns-clause-log : goal.returns-clause-log
returns-clause-log g c =
    subst
    (λ es. IsRightLog g.M.Measure.ops es (is_in_force c.args.marks.now) c.args.query c.loop-event.number c.loop-event.work.log.now)
    c.rewind.ensures.same
    (right_all _ _ _ _ (g.S.Source.listed c.rewind.new.self) _ _ _ _ c.loop-event.invariant.stands _ _ (g.S.Source.within c.loop-event.source)
    c.in_default.ensures)
