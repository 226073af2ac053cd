use Rattle.std.proofs.Common.{◌≡◌, map, take}
use Rattle.blocks.specs.Loads.{Filling}
use Rattle.records.specs.Layout.{layout}
use Rattle.worked_day.proofs.store.Given as goal

abbrev pub invariant-loop-event : goal.invariant-loop-event
invariant-loop-event l =
    (l.load.memory.ghost_name ≡ l.initial.load.memory.ghost_name)
    × Filling l.initial.load.memory.now (map layout (take l.event-index l.events)) l.load.memory.now l.load.held
