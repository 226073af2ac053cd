-- What a conversation leaves extends the history of what it met.
use Rattle.std.proofs.Common.{ℕ, List}
use Rattle.timetable_post.specs.Histories.{ExtendsHistory}
use Rattle.dialogue.specs.Conversations.{Conversation, one_more_line, no_lines}
use Rattle.dialogue.specs.Obeying.{Session}
use Rattle.dialogue.proofs.Continuing.{extends_itself, extends_on}

pub conversation_extends : {b : Session} {bs : List ℕ} {a : Session} {t left : List ℕ} → Conversation b bs t a left → ExtendsHistory b.post a.post
conversation_extends {b} no_lines = extends_itself b.post
conversation_extends {b} (one_more_line {m} {a} before line interprets) =
    extends_on b.post m.post a.post (conversation_extends before) interprets.history
