use Rattle.std.proofs.Common.{◌≡◌, ℕ, ◌<◌, length, get_or}
use Rattle.records.specs.Limits.{most_events}
use Rattle.blocks.specs.Views.{events}
use Rattle.sources.specs.Tables.{blank_event}
use Rattle.sources.proofs.record_source.table_of.Given as goal

abbrev pub invariant-loop-place : goal.invariant-loop-place
invariant-loop-place l =
    (length l.slot-items ≡ most_events) × ((k : ℕ) → k < l.place → get_or l.slot-items k blank_event ≡ get_or (events l.block) k blank_event)
