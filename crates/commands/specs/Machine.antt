-- What the states of the reader stand for. Assumes nothing.
--     limit f          the most that a number may be
--     lead f           the bytes of a command before the number of the field f
--     text_so_far s    the bytes that are read when the reader is in a state
--     HoldsBounded f   the numbers that a field holds are within bounds
--     IsBounded s      the numbers that a state holds are within bounds
--     Moves s b t      t is the state behind the bytes of s and the byte b, none where no command begins
--                      with those
--     Finishes s c     c is the command that the bytes of s spell, none where they spell none
use Rattle.std.specs.Prelude.{◌≡◌, ℕ, ◌≤◌, List, [], ◌∷◌, ◌++◌, Some, None, codes, decimal, Option}
use Rattle.records.specs.Limits.{last_stop, most_number}
use Rattle.commands.specs.declared.command.Command.{Command}
use Rattle.commands.specs.declared.command.Command.TheVariants.{Find}
use Rattle.commands.specs.declared.reader.Field.{Field}
use Rattle.commands.specs.declared.reader.Field.TheVariants.{Withdrawn, Reinstated, From, To, Open, Close}
use Rattle.commands.specs.declared.reader.State.{State}
use Rattle.commands.specs.declared.reader.State.TheVariants.{Start, Withdraw, Reinstate, Tally, Measure, Before, Within, BeforeCall, Called}
use Rattle.texts.specs.Pushing.{spaced_number}
use Rattle.commands.specs.Grammar.{Begins, Spells, IsValid, letter, query_text}

abbrev pub limit : Field → ℕ
limit Withdrawn = most_number
limit Reinstated = most_number
limit (From k) = last_stop
limit (To k from) = last_stop
limit (Open k from to) = most_number
limit (Close k from to opens) = most_number

abbrev pub lead : Field → List ℕ
lead Withdrawn = codes "w "
lead Reinstated = codes "r "
lead (From k) = letter k ∷ codes " "
lead (To k from) = letter k ∷ (spaced_number from ++ codes " ")
lead (Open k from to) = letter k ∷ (spaced_number from ++ (spaced_number to ++ codes " "))
lead (Close k from to opens) = letter k ∷ (spaced_number from ++ (spaced_number to ++ (spaced_number opens ++ codes " ")))

abbrev pub text_so_far : State → List ℕ
text_so_far Start = []
text_so_far Withdraw = codes "w"
text_so_far Reinstate = codes "r"
text_so_far Tally = codes "t"
text_so_far (Measure k) = letter k ∷ []
text_so_far (Before f) = lead f
text_so_far (Within f value) = lead f ++ decimal value
text_so_far (BeforeCall k q) = query_text k q ++ codes " "
text_so_far (Called k q) = query_text k q ++ codes " v"

abbrev pub HoldsBounded : Field → Type 0
HoldsBounded Withdrawn = Unit {0}
HoldsBounded Reinstated = Unit {0}
HoldsBounded (From k) = Unit {0}
HoldsBounded (To k from) = from ≤ last_stop
HoldsBounded (Open k from to) = (from ≤ last_stop) × (to ≤ last_stop)
HoldsBounded (Close k from to opens) = (from ≤ last_stop) × (to ≤ last_stop) × (opens ≤ most_number)

abbrev pub IsBounded : State → Type 0
IsBounded Start = Unit {0}
IsBounded Withdraw = Unit {0}
IsBounded Reinstate = Unit {0}
IsBounded Tally = Unit {0}
IsBounded (Measure k) = Unit {0}
IsBounded (Before f) = HoldsBounded f
IsBounded (Within f value) = HoldsBounded f × (value ≤ limit f)
IsBounded (BeforeCall k q) = IsValid (Find k q)
IsBounded (Called k q) = IsValid (Find k q)

abbrev pub Moves : State → ℕ → Option State → Type 0
Moves s b None = Begins (text_so_far s ++ (b ∷ [])) → ⊥
Moves s b (Some t) = IsBounded t × (text_so_far t ≡ text_so_far s ++ (b ∷ []))

abbrev pub Finishes : State → Option Command → Type 0
Finishes s None = (c : Command) → Spells (text_so_far s) c → ⊥
Finishes s (Some c) = Spells (text_so_far s) c
