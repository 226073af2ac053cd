-- The tables that a search is given. Assumes nothing.
--     lengths t            how long the tables t are
--     SameTables t t'      each table of t', after a call, is the same memory as that of t, before it, and as long; clauses
--                          have to say it, since a type speaks of one moment
use Rattle.scans.specs.Tables.{SameSlice}
use Rattle.search.specs.declared.tables.Tables.{Tables}
use Rattle.search.specs.Lengths.{Lengths, lengths_in}

abbrev pub lengths : {L : Type 0} → Tables L → Lengths
lengths t = lengths_in t.log.now t.board.now t.queue.now t.steps.now

abbrev pub SameTables : {L : Type 0} → Tables L → Tables L → Type 0
SameTables t t' = SameSlice t.log t'.log × SameSlice t.board t'.board × SameSlice t.queue t'.queue × SameSlice t.steps t'.steps
