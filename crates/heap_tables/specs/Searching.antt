-- What a search in tables on the heap does. Assumes nothing.
--     lengths_of t         how long the tables t are
--     rules_for es t       the rules that the tables t obey for a search over the events es
--     SameSlots t t'       every slot of the tables t holds in t' what it held in t
--     SameLengths t t'     the tables t' are as long as t
use Rattle.std.specs.Prelude.{◌≡◌, List, length}
use Rattle.faults.specs.Rules.{Rule}
use Rattle.records.specs.declared.event.Event.{Event}
use Rattle.search.specs.Lengths.{Lengths, lengths_in, table_rules}
use Rattle.heap_tables.specs.declared.HeapTables.{HeapTables}

abbrev pub lengths_of : {L : Type 0} → HeapTables L → Lengths
lengths_of t = lengths_in t.log.items t.board.items t.queue.items t.steps.items

abbrev pub rules_for : {L : Type 0} → List Event → HeapTables L → List Rule
rules_for es t = table_rules (length es) (lengths_of t)

abbrev pub SameSlots : {L : Type 0} → HeapTables L → HeapTables L → Type 0
SameSlots t t' =
    (t'.log.items ≡ t.log.items)
    × (t'.board.items ≡ t.board.items)
    × (t'.queue.items ≡ t.queue.items)
    × (t'.steps.items ≡ t.steps.items)

abbrev pub SameLengths : {L : Type 0} → HeapTables L → HeapTables L → Type 0
SameLengths t t' = lengths_of t' ≡ lengths_of t
