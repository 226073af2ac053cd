-- What opening a block of lines gives. Assumes nothing.
--     IsOpened bs es p  the block bs breaks no rule, its lines make the timetable es, and the place p is its start
use Rattle.std.specs.Prelude.{◌≡◌, ℕ, List}
use Rattle.faults.specs.Rules.{IsKept}
use Rattle.records.specs.declared.event.Event.{Event}
use Rattle.lines.specs.Departures.{IsTimetableOf}
use Rattle.lines.specs.Lines.{block_rules, lines_of}

pub record IsOpened (bs : List ℕ) (es : List Event) (p : ℕ) : Type 0 where
  pub kept : IsKept (block_rules bs)
  pub rides : IsTimetableOf (lines_of bs) es
  pub start : p ≡ 0
