use Rattle.std.proofs.Common.{◌≡◌, ◌+◌, ◌*◌, ◌≤◌, drop}
use Rattle.journeys.specs.Journeys.{openings, rides, riding}
use Rattle.journeys.proofs.judgment.add_up.Given as goal

-- what is left is still to be added
abbrev pub invariant-loop-step : goal.invariant-loop-step
invariant-loop-step l =
    (l.totals.riding + riding l.events (drop l.step-index l.steps) ≡ riding l.events l.steps)
    × (l.totals.rides + rides l.events (drop l.step-index l.steps) ≡ rides l.events l.steps)
    × (l.totals.openings + openings l.events (drop l.step-index l.steps) ≡ openings l.events l.steps)
    × (l.totals.riding ≤ 65535 * l.step-index)
    × (l.totals.rides ≤ l.step-index)
    × (l.totals.openings ≤ l.step-index)
