-- The tables that a post works with. Assumes nothing.
--     SamePostTables t t'  each table of t', after a call, is the same memory as that of t, before it, and as long; clauses
--                          have to say it, since a type speaks of one moment
use Rattle.scans.specs.Tables.{SameSlice}
use Rattle.dialogue.specs.declared.tables.PostTables.{PostTables}

abbrev pub SamePostTables : PostTables → PostTables → Type 0
SamePostTables t t' =
    SameSlice t.log t'.log
    × SameSlice t.board t'.board
    × SameSlice t.trip_log t'.trip_log
    × SameSlice t.trip_board t'.trip_board
    × SameSlice t.queue t'.queue
    × SameSlice t.steps t'.steps
