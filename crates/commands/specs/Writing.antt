-- A command's text written over other bytes. Assumes nothing.
--     WritesCommand c m n m'  m' is m with the text of c over its first n bytes, which read as c and nothing else
--     WritesIfRoom c m a m'  the answer a tells that c is written over m, or that it is not valid or does not
--                          fit, with m as it was
use Rattle.std.specs.Prelude.{◌≡◌, ℕ, ◌<◌, List, length, take, Some, None, Ok, Option, Result}
use Rattle.faults.specs.declared.Fault.{Fault}
use Rattle.texts.specs.Pushing.{IsOverFront}
use Rattle.commands.specs.declared.command.Command.{Command}
use Rattle.commands.specs.Grammar.{IsAnswered, IsValid, command_text}

pub record WritesCommand (c : Command) (m : List ℕ) (n : ℕ) (m' : List ℕ) : Type 0 where
  pub valid : IsValid c
  pub over : IsOverFront (command_text c) m n m'
  pub reads : (a : Result Command Fault) → IsAnswered (take n m') a → a ≡ Ok c

abbrev pub WritesIfRoom : Command → List ℕ → Option ℕ → List ℕ → Type 0
WritesIfRoom c m (Some n) m' = WritesCommand c m n m'
WritesIfRoom c m None m' = (m' ≡ m) × (IsValid c → length m < length (command_text c))
