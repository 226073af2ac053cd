-- The end of a line: which states spell a command, and that every state begins one.
use Rattle.std.proofs.Common.{◌≡◌, ℕ, ◌<◌, Bool, true, false, List, [], ◌∷◌, ◌++◌, length, Some, None, decimal, Option, sym, refl, ap, ◌∙◌, subst, arith}
use Rattle.std.proofs.lemmas.Fmt.{decimal_nonempty}
use Rattle.std.proofs.lemmas.List.{append_assoc, append-nil, length-append}
use Rattle.journeys.specs.declared.query.Query.{Query}
use Rattle.commands.specs.declared.command.Command.{Command}
use Rattle.commands.specs.declared.command.Command.TheVariants as command
use Rattle.commands.specs.declared.command.Command.TheVariants.{Find}
use Rattle.commands.specs.declared.reader.Field.{Field}
use Rattle.commands.specs.declared.reader.Field.TheVariants.{Withdrawn, Reinstated, From, To, Open, Close}
use Rattle.commands.specs.declared.reader.State.{State}
use Rattle.commands.specs.declared.reader.State.TheVariants.{Start, Withdraw, Reinstate, Tally, Measure, Before, Within, BeforeCall, Called}
use Rattle.texts.specs.Pushing.{spaced_number}
use Rattle.commands.specs.Grammar.{Begins, Spells, IsValid, letter, query_text, command_text}
use Rattle.commands.specs.Machine.{IsBounded, Finishes, lead, text_so_far}
use Rattle.commands.proofs.Followed.{call_follows, first, follows, from_follows, measure_apart, most_between, number, open_follows, to_follows}
use Rattle.commands.proofs.Numbers.{no_space_behind}

abbrev pub asked : ℕ → ℕ → ℕ → ℕ → Bool → Query
asked from to opens closes call = record { from = from; to = to; «open» = opens; close = closes; call = call }

-- the command that ends with a state
abbrev pub end_of : State → Option Command
end_of Start = None
end_of Withdraw = None
end_of Reinstate = None
end_of Tally = Some command.Tally
end_of (Measure k) = None
end_of (Before f) = None
end_of (Within Withdrawn v) = Some (command.Withdraw v)
end_of (Within Reinstated v) = Some (command.Reinstate v)
end_of (Within (From k) v) = None
end_of (Within (To k from) v) = None
end_of (Within (Open k from to) v) = None
end_of (Within (Close k from to opens) v) = Some (Find k (asked from to opens v false))
end_of (BeforeCall k q) = None
end_of (Called k q) = Some (Find k (asked q.from q.to q.open q.close true))

alone : (c : Command) (b : ℕ) → b ∷ [] ≡ command_text c → b ≡ 116
alone (command.Withdraw n) b e = absurd (omega (arith, ap length e))
alone (command.Reinstate n) b e = absurd (omega (arith, ap length e))
alone command.Tally b e = ap first e
alone (Find k q) b e = absurd (omega (arith, ap length e))

some : (c : Command) → 0 < length (command_text c)
some (command.Withdraw n) = omega arith
some (command.Reinstate n) = omega arith
some command.Tally = omega arith
some (Find k q) = omega arith

end : (s : State) → IsBounded s → Finishes s (end_of s)
end Start h = λ c p. omega (arith, some c, ap length p.1)
end Withdraw h = λ c p. omega (arith, alone c 119 p.1)
end Reinstate h = λ c p. omega (arith, alone c 114 p.1)
end Tally h = (tt, refl)
end (Measure k) h = λ c p. (measure_apart k).2 (alone c (letter k) p.1)
end (Before f) h = λ c p.
    let (m, rest, l, r, i) = number c p.0 f [] (follows c p.0 f [] h (append-nil (lead f) ∙ p.1)) in
    let z = most_between f in
    omega (arith, length-append (decimal m) rest, ap length i, decimal_nonempty m (omega arith))
end (Within Withdrawn v) h = (h.1, refl)
end (Within Reinstated v) h = (h.1, refl)
end (Within (From k) v) h = λ c p.
    let (q, i, b) = from_follows k c (decimal v) p.1 in
    let z : IsValid (Find k q) = subst IsValid i p.0 in
    no_space_behind q.from v _ (omega arith) (omega arith) (sym b)
end (Within (To k from) v) h = λ c p.
    let (q, i, f, b) = to_follows c p.0 k from (decimal v) h.0 p.1 in
    let z : IsValid (Find k q) = subst IsValid i p.0 in
    no_space_behind q.to v _ (omega arith) (omega arith) (sym b)
end (Within (Open k from to) v) h = λ c p.
    let (q, i, f, t, b) = open_follows c p.0 k from to (decimal v) h.0 p.1 in
    let z : IsValid (Find k q) = subst IsValid i p.0 in
    no_space_behind q.open v _ (omega arith) (omega arith) (sym b)
end (Within (Close k from to opens) v) h = ((h.0.0, h.0.1, h.0.2, h.1), simp (append_assoc, append-nil))
end (BeforeCall k q) h = λ c p. omega (arith, ap length (call_follows c p.0 k q [] h (append-nil (query_text k q ++ (32 ∷ [])) ∙ p.1)))
end (Called k q) h = (h, refl)

pub finished_at : (s : State) (o : Option Command) → IsBounded s → end_of s ≡ o → Finishes s o
finished_at s o h e = subst (Finishes s) e (end s h)

-- each state begins a command: the shortest that goes on from it
abbrev shortest : Field → ℕ → Command
shortest Withdrawn v = command.Withdraw v
shortest Reinstated v = command.Reinstate v
shortest (From k) v = Find k (asked v 0 0 0 false)
shortest (To k from) v = Find k (asked from v 0 0 false)
shortest (Open k from to) v = Find k (asked from to v 0 false)
shortest (Close k from to opens) v = Find k (asked from to opens v false)

abbrev zeros : Field → List ℕ
zeros Withdrawn = []
zeros Reinstated = []
zeros (From k) = spaced_number 0 ++ (spaced_number 0 ++ spaced_number 0)
zeros (To k from) = spaced_number 0 ++ spaced_number 0
zeros (Open k from to) = spaced_number 0
zeros (Close k from to opens) = []

spells_shortest : (f : Field) (v : ℕ) → IsBounded (Within f v) → Spells (lead f ++ (decimal v ++ zeros f)) (shortest f v)
spells_shortest Withdrawn v h = (h.1, simp append-nil)
spells_shortest Reinstated v h = (h.1, simp append-nil)
spells_shortest (From k) v h = ((h.1, omega arith, omega arith, omega arith), simp (append_assoc, append-nil))
spells_shortest (To k from) v h = ((h.0, h.1, omega arith, omega arith), simp (append_assoc, append-nil))
spells_shortest (Open k from to) v h = ((h.0.0, h.0.1, h.1, omega arith), simp (append_assoc, append-nil))
spells_shortest (Close k from to opens) v h = let e = end (Within (Close k from to opens) v) h in (e.0, ap (λ l. lead (Close k from to opens) ++ l) (append-nil (decimal v)) ∙ e.1)

pub begins_at : (s : State) → IsBounded s → Begins (text_so_far s)
begins_at Start h = (command.Tally, 116 ∷ [], (tt, refl))
begins_at Withdraw h = (command.Withdraw 0, spaced_number 0, (omega arith, refl))
begins_at Reinstate h = (command.Reinstate 0, spaced_number 0, (omega arith, refl))
begins_at Tally h = (command.Tally, [], (tt, refl))
begins_at (Measure k) h = (Find k (asked 0 0 0 0 false), 32 ∷ (decimal 0 ++ zeros (From k)), spells_shortest (From k) 0 (tt, omega arith))
begins_at (Before f) h = let m = most_between f in (shortest f 0, decimal 0 ++ zeros f, spells_shortest f 0 (h, omega arith))
begins_at (Within f v) h = (shortest f v, zeros f, subst (λ l. Spells l (shortest f v)) (sym (append_assoc (lead f) (decimal v) (zeros f))) (spells_shortest f v h))
begins_at (BeforeCall k q) h = (Find k (asked q.from q.to q.open q.close true), 118 ∷ [], (h, append_assoc (query_text k q) (32 ∷ []) (118 ∷ [])))
begins_at (Called k q) h = (Find k (asked q.from q.to q.open q.close true), [], (h, append-nil (query_text k q ++ (32 ∷ 118 ∷ []))))
