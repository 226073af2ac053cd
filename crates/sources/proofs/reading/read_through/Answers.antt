use Rattle.std.proofs.Common.{subst}
use Rattle.sources.specs.Sources.{ReadThrough}
use Rattle.sources.specs.Tables.{blank_event}
use Rattle.sources.proofs.Readings.{midway_end, midway_few, midway_more, reading_falls, repeats}
use Rattle.sources.proofs.reading.read_through.Goals as goal

pub returns : goal.returns
returns g c =
    record {
      through =
          subst (λ es. ReadThrough es c.loop-event.counts (g.S.Source.events c.next.new.self) (g.S.Source.place c.next.new.self)) c.rewind.ensures.same
          (midway_end _ _ _ _ _ _ c.loop-event.invariant blank_event (g.S.Source.within c.loop-event.source) c.in_default.ensures);
      repeats = repeats (g.S.Source.events c.args.source.now) (g.S.Source.place c.args.source.now);
    }

pub loop-event-preserved : goal.loop-event-preserved
loop-event-preserved g c =
    midway_more _ _ _ _ _ _ c.loop-event.invariant c.in-Some.event c.count.new.self c.in-Some.ensures
    c.count.ensures.openings c.count.ensures.rides

pub count-requires : goal.count-requires
count-requires g c =
    let few =
    midway_few _ _ _ _ (g.S.Source.events c.next.new.self) (g.S.Source.place c.next.new.self) c.loop-event.invariant
    c.in-Some.event c.in-Some.ensures.item (g.S.Source.listed c.loop-event.source).few in
    record { openings = few.0; rides = few.1 }

pub loop-event-smaller : goal.loop-event-smaller
loop-event-smaller g c = reading_falls _ _ c.in-Some.event _ _ c.in-Some.ensures
