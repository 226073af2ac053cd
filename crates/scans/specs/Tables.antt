-- What the tables of a search hold, and that they stay the same memory. Assumes nothing.
--     Contents L           a log, a board, and a queue of arrivals with the number of its slots that are in use
--     contents w           what the tables w hold
--     arrivals_in c        the arrivals that the queue holds
--     SameSlice a b        the slice b, after a call, is the same memory as the slice a, before it, and as long
--     SameWork w w'        so it is with the log, the board and the queue; clauses have to say it, since a type speaks of one moment
use Rattle.std.specs.Prelude.{◌≡◌, ℕ, List, length, Option}
use Rattle.std.specs.Borrow.{MutBor}
use Rattle.queue.specs.Queue.{elements}
use Rattle.scans.specs.declared.arrival.Arrival.{Arrival}
use Rattle.scans.specs.declared.board.Incumbent.{Incumbent}
use Rattle.scans.specs.declared.entry.Entry.{Entry}
use Rattle.scans.specs.declared.work.Work.{Work}

pub record Contents (L : Type 0) : Type 0 where
  pub log : List (Option (Entry L))
  pub board : List (Option (Incumbent L))
  pub queue : List Arrival
  pub used : ℕ

abbrev pub contents : {L : Type 0} → Work L → Contents L
contents w = record { log = w.log.now; board = w.board.now; queue = w.queue.now; used = w.used }

abbrev pub arrivals_in : {L : Type 0} → Contents L → List Arrival
arrivals_in c = elements c.queue c.used

abbrev pub SameSlice : {X : Type 0} → MutBor (List X) → MutBor (List X) → Type 0
SameSlice a b = (b.ghost_name ≡ a.ghost_name) × (length b.now ≡ length a.now)

abbrev pub SameWork : {L : Type 0} → Work L → Work L → Type 0
SameWork w w' = SameSlice w.log w'.log × SameSlice w.board w'.board × SameSlice w.queue w'.queue
