-- What an opened block and a load show of themselves. Assumes nothing.
--     events b         the events of a block
--     bytes_of b       the bytes that it was opened over
--     memory_of l      what the memory of a load holds
--     count_of l       how many records are at its front
--     name_of l        which memory it is
use Rattle.std.specs.Prelude.{ℕ, List, map}
use Rattle.std.specs.List.{concat}
use Rattle.records.specs.declared.event.Event.{Event}
use Rattle.records.specs.Layout.{event_in}
use Rattle.blocks.specs.declared.block.Block.{Block}
use Rattle.blocks.specs.declared.load.Load.{Load}

abbrev pub events : Block → List Event
events b = map event_in b.rows.now

abbrev pub bytes_of : Block → List ℕ
bytes_of b = concat b.rows.now

abbrev pub memory_of : Load → List ℕ
memory_of l = l.memory.now

abbrev pub count_of : Load → ℕ
count_of l = l.held

abbrev pub name_of : Load → ℕ
name_of l = l.memory.ghost_name
