-- How commands are written. Assumes nothing.
--     letter k         the letter of a measure
--     query_text k q   a query's letter, stops and minutes
--     call_text b      a space and v where a call is wanted, else nothing
--     command_text c   the bytes of a command
--     IsValid c        its numbers are at most most_number, and its stops at most last_stop
--     Spells bs c      the bytes are the text of a valid command c
--     Begins bs        some valid command's text is the bytes and then some rest
--     OneCommand       a text is the text of one valid command at most
--     ShortTexts       the text of a valid command has 25 bytes at most
--     IsRefused bs f   the bytes spell no command, and f tells so, with the length of the longest front of
--                      them that begins one
--     IsAnswered bs a  the answer a is the command that the bytes spell, or such a fault
use Rattle.std.specs.Prelude.{◌≡◌, ℕ, ◌≤◌, Bool, true, false, List, [], ◌∷◌, ◌++◌, length, take, Ok, Err, codes, Result}
use Rattle.std.specs.Str.{byte}
use Rattle.texts.specs.Pushing.{spaced_number}
use Rattle.faults.specs.declared.Fault.{Fault}
use Rattle.faults.specs.declared.Fault.TheVariants.{NotACommand}
use Rattle.records.specs.Limits.{last_stop, most_number}
use Rattle.journeys.specs.declared.query.Query.{Query}
use Rattle.measures.specs.declared.criterion.Criterion.{Criterion}
use Rattle.measures.specs.declared.criterion.Criterion.TheVariants.{EarliestArrival, LatestDeparture, Fastest, LeastRiding, FewestRides, LeastWaiting}
use Rattle.commands.specs.declared.command.Command.{Command}
use Rattle.commands.specs.declared.command.Command.TheVariants.{Withdraw, Reinstate, Tally, Find}

abbrev pub letter : Criterion → ℕ
letter EarliestArrival = byte "e"
letter LatestDeparture = byte "l"
letter Fastest = byte "f"
letter LeastRiding = byte "s"
letter FewestRides = byte "n"
letter LeastWaiting = byte "c"

abbrev pub query_text : Criterion → Query → List ℕ
query_text k q = letter k ∷ (spaced_number q.from ++ (spaced_number q.to ++ (spaced_number q.open ++ spaced_number q.close)))

abbrev pub call_text : Bool → List ℕ
call_text true = codes " v"
call_text false = []

abbrev pub command_text : Command → List ℕ
command_text (Withdraw event) = byte "w" ∷ spaced_number event
command_text (Reinstate event) = byte "r" ∷ spaced_number event
command_text Tally = codes "t"
command_text (Find k q) = query_text k q ++ call_text q.call

abbrev pub IsValid : Command → Type 0
IsValid (Withdraw event) = event ≤ most_number
IsValid (Reinstate event) = event ≤ most_number
IsValid Tally = Unit {0}
IsValid (Find k q) = (q.from ≤ last_stop) × (q.to ≤ last_stop) × (q.open ≤ most_number) × (q.close ≤ most_number)

abbrev pub Spells : List ℕ → Command → Type 0
Spells bs c = IsValid c × (bs ≡ command_text c)

abbrev pub Begins : List ℕ → Type 0
Begins bs = (c : Command) × (rest : List ℕ) × Spells (bs ++ rest) c

abbrev pub OneCommand : Type 0
OneCommand = (c d : Command) → IsValid c → IsValid d → command_text c ≡ command_text d → c ≡ d

abbrev pub ShortTexts : Type 0
ShortTexts = (c : Command) → IsValid c → length (command_text c) ≤ 25

pub record IsRefused (bs : List ℕ) (f : Fault) : Type 0 where
  pub place : ℕ
  pub fault : f ≡ NotACommand place
  pub within : place ≤ length bs
  pub begins : Begins (take place bs)
  pub furthest : (k : ℕ) → k ≤ length bs → Begins (take k bs) → k ≤ place
  pub none : (c : Command) → Spells bs c → ⊥

abbrev pub IsAnswered : List ℕ → Result Command Fault → Type 0
IsAnswered bs (Ok c) = Spells bs c
IsAnswered bs (Err f) = IsRefused bs f
