-- One byte more: the state that it leads to, and where no command goes on with it.
use Rattle.std.proofs.Common.{◌≡◌, ℕ, ◌+◌, ◌-◌, ◌*◌, ◌<◌, ◌≤◌, Bool, true, false, ◌&&◌, ◌||◌, eqb, leb, List, [], ◌∷◌, ◌++◌, length, Some, None, decimal, Option, sym, refl, ap, ◌∙◌, subst, ⊎_elim, arith}
use Rattle.std.proofs.lemmas.Fmt.{decimal_digit}
use Rattle.std.proofs.lemmas.List.{append_assoc}
use Rattle.std.proofs.lemmas.Bool.{and_from, both_ways, eq-eqb, le-leb, or_left, or_right}
use Rattle.std.specs.Int.{IsInRange}
use Rattle.journeys.specs.declared.query.Query.{Query}
use Rattle.measures.specs.declared.criterion.Criterion.{Criterion}
use Rattle.commands.specs.declared.command.Command.{Command}
use Rattle.commands.specs.declared.reader.Field.{Field}
use Rattle.commands.specs.declared.reader.Field.TheVariants.{Withdrawn, Reinstated, From, To, Open, Close}
use Rattle.commands.specs.declared.reader.State.{State}
use Rattle.commands.specs.declared.reader.State.TheVariants.{Start, Withdraw, Reinstate, Tally, Measure, Before, Within, BeforeCall, Called}
use Rattle.commands.specs.Grammar.{Begins, IsValid, letter, query_text, command_text}
use Rattle.commands.specs.Machine.{IsBounded, HoldsBounded, Moves, lead, limit, text_so_far}
use Rattle.commands.proofs.Followed.{call_follows, digit_follows, most_between, reinstated_ends, space_follows, space_or_digit_follows, tally_ends, withdrawn_ends}
use Rattle.commands.proofs.Numbers.{decimal_more}

-- a valid command whose text goes on from bs with b
abbrev Begun : List ℕ → ℕ → Type 0
Begun bs b = (c : Command) × (rest : List ℕ) × IsValid c × (bs ++ (b ∷ rest) ≡ command_text c)

begun : (bs : List ℕ) (b : ℕ) → Begins (bs ++ (b ∷ [])) → Begun bs b
begun bs b (c, rest, s) = (c, rest, s.0, sym (append_assoc bs (b ∷ []) rest) ∙ s.1)

abbrev digit : ℕ → Bool
digit b = leb 48 b && leb b 57

-- whether a command may go on with a byte, leaving open its first letter and the size of a number
abbrev pub goes_on : State → ℕ → Bool
goes_on Start b = true
goes_on Withdraw b = eqb b 32
goes_on Reinstate b = eqb b 32
goes_on Tally b = false
goes_on (Measure k) b = eqb b 32
goes_on (Before f) b = digit b
goes_on (Within f v) b = eqb b 32 || digit b
goes_on (BeforeCall k q) b = eqb b 118
goes_on (Called k q) b = false

from_digit : (b : ℕ) → IsInRange 48 57 b → digit b ≡ true
from_digit b h = and_from (leb 48 b) (leb b 57) (le-leb 48 b h.0) (le-leb b 57 h.1)

goes_on_at : (s : State) (b : ℕ) → IsBounded s → (c : Command) (rest : List ℕ) → IsValid c → text_so_far s ++ (b ∷ rest) ≡ command_text c → goes_on s b ≡ true
goes_on_at Start b h c rest v e = refl
goes_on_at Withdraw b h c rest v e = eq-eqb b 32 (space_follows c 119 b rest e)
goes_on_at Reinstate b h c rest v e = eq-eqb b 32 (space_follows c 114 b rest e)
goes_on_at Tally b h c rest v e = absurd (tally_ends c b rest e)
goes_on_at (Measure k) b h c rest v e = eq-eqb b 32 (space_follows c (letter k) b rest e)
goes_on_at (Before f) b h c rest v e = from_digit b (digit_follows c v f b rest h e)
goes_on_at (Within f n) b h c rest v e =
    ⊎_elim (λ z. or_left _ _ (eq-eqb b 32 z)) (λ z. or_right (eqb b 32) _ (from_digit b z.0))
    (space_or_digit_follows c v f n b rest h.0 h.1 e)
goes_on_at (BeforeCall k q) b h c rest v e = let z = call_follows c v k q (b ∷ rest) h e in eq-eqb b 118 (cc)
goes_on_at (Called k q) b h c rest v e =
    let z = call_follows c v k q (118 ∷ b ∷ rest) h (append_assoc (query_text k q) (32 ∷ []) (118 ∷ b ∷ rest) ∙ sym (append_assoc (query_text k q) (32 ∷ 118 ∷ []) (b ∷ rest)) ∙ e) in
    absurd (omega (arith, ap length z))

pub goes_on_lem : (s : State) (b : ℕ) → IsBounded s → Begins (text_so_far s ++ (b ∷ [])) → goes_on s b ≡ true
goes_on_lem s b h p = let (c, rest, v, e) = begun (text_so_far s) b p in goes_on_at s b h c rest v e

-- a byte with which no command goes on
pub stuck : (s : State) (b : ℕ) → IsBounded s → goes_on s b ≡ false → Begins (text_so_far s ++ (b ∷ [])) → ⊥
stuck s b h n p = both_ways _ n (goes_on_lem s b h p)

pub first_digit : (f : Field) (b : ℕ) → HoldsBounded f → IsInRange 48 57 b → Moves (Before f) b (Some (Within f (b - 48)))
first_digit f b h d =
    let m = most_between f in
    let l : 48 + (b - 48) ≡ b = omega arith in
    ((h, omega arith), ap (λ ds. lead f ++ ds) (decimal_digit (b - 48) (omega arith) ∙ ap (λ x. x ∷ []) l))

pub further_digit : (f : Field) (v b : ℕ) → IsBounded (Within f v) → IsInRange 48 57 b → 0 < v → v * 10 + (b - 48) ≤ limit f → Moves (Within f v) b (Some (Within f (v * 10 + (b - 48))))
further_digit f v b h d some small =
    let m = most_between f in
    let l : 48 + (b - 48) ≡ b = omega arith in
    ((h.0, small), ap (λ ds. lead f ++ ds) (decimal_more v (b - 48) some (omega arith) (omega arith) ∙ ap (λ x. decimal v ++ (x ∷ [])) l) ∙ sym (append_assoc (lead f) (decimal v) (b ∷ [])))

-- a number does not go on behind 0, or past its bound
pub no_further_digit : (f : Field) (v b : ℕ) → IsBounded (Within f v) → IsInRange 48 57 b → ((0 < v) × (v * 10 + (b - 48) ≤ limit f) → ⊥) → Moves (Within f v) b None
no_further_digit f v b h d over p =
    let (c, rest, l, e) = begun (lead f ++ decimal v) b p in
    ⊎_elim (λ z. omega arith) (λ z. over (z.1, z.2)) (space_or_digit_follows c l f v b rest h.0 h.1 e)

-- the state behind a number and a space
abbrev behind : Field → ℕ → Option State
behind Withdrawn v = None
behind Reinstated v = None
behind (From k) v = Some (Before (To k v))
behind (To k from) v = Some (Before (Open k from v))
behind (Open k from to) v = Some (Before (Close k from to v))
behind (Close k from to opens) v = Some (BeforeCall k (record { from = from; to = to; «open» = opens; close = v; call = false }))

space : (f : Field) (v : ℕ) → IsBounded (Within f v) → Moves (Within f v) 32 (behind f v)
space Withdrawn v h = λ p. let (c, rest, l, e) = begun (lead Withdrawn ++ decimal v) 32 p in withdrawn_ends c l v rest h.1 e
space Reinstated v h = λ p. let (c, rest, l, e) = begun (lead Reinstated ++ decimal v) 32 p in reinstated_ends c l v rest h.1 e
space (From k) v h = (h.1, refl)
space (To k from) v h = ((h.0, h.1), simp append_assoc)
space (Open k from to) v h = ((h.0.0, h.0.1, h.1), simp append_assoc)
space (Close k from to opens) v h = ((h.0.0, h.0.1, h.0.2, h.1), simp append_assoc)

pub space_at : {f g : Field} (v : ℕ) → f ≡ g → IsBounded (Within f v) → Moves (Within f v) 32 (behind g v)
space_at {f} {g} v e h = subst (λ x. Moves (Within f v) 32 (behind x v)) e (space f v h)

pub call : {s : State} {b : ℕ} (k : Criterion) (q : Query) → s ≡ BeforeCall k q → b ≡ 118 → IsBounded s → Moves s b (Some (Called k q))
call k q e z h =
    rw (e, z) (subst IsBounded e h, sym (append_assoc (query_text k q) (32 ∷ []) (118 ∷ [])))
