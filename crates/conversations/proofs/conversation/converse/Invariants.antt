use Rattle.std.proofs.Common.{◌≡◌, List, ℕ, Some}
use Rattle.dialogue.specs.Obeying.{session}
use Rattle.conversations.proofs.Progress.{Progress}
use Rattle.conversations.proofs.conversation.converse.Given as goal

abbrev pub invariant-lines : goal.invariant-lines
invariant-lines g l =
    (bs : List ℕ) → g.R.Read.remaining l.fn.reader ≡ Some bs →
    Progress (session l.fn.post l.fn.tables) bs (g.W.Write.contents l.fn.writer)
    (session l.post l.tables) (g.R.Read.remaining l.reader) (g.W.Write.contents l.writer)
