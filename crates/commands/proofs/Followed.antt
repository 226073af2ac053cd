-- What may follow the bytes of a state: the text of a command, from its front.
--     behind_from q    what stands behind a query's first number; so for the others
--     Follows f c bs   the command c has the field f, with what the field holds before it, and bs from there on
use Rattle.std.proofs.Common.{◌≡◌, ℕ, ◌+◌, ◌-◌, ◌*◌, ◌<◌, ◌≤◌, Bool, true, false, cond, eqb, ◌⊎◌, List, [], ◌∷◌, ◌++◌, length, get_or, drop, decimal, sym, refl, ap, ◌∙◌, subst, inl, inr, ⊎_elim, arith}
use Rattle.std.proofs.lemmas.List.{append_assoc, append-nil}
use Rattle.std.specs.Int.{IsInRange}
use Rattle.records.specs.Limits.{last_stop, most_number}
use Rattle.journeys.specs.declared.query.Query.{Query}
use Rattle.measures.specs.declared.criterion.Criterion.{Criterion}
use Rattle.measures.specs.declared.criterion.Criterion.TheVariants.{EarliestArrival, LatestDeparture, Fastest, LeastRiding, FewestRides, LeastWaiting}
use Rattle.commands.specs.declared.command.Command.{Command}
use Rattle.commands.specs.declared.command.Command.TheVariants as command
use Rattle.commands.specs.declared.command.Command.TheVariants.{Find}
use Rattle.commands.specs.declared.reader.Field.{Field}
use Rattle.commands.specs.declared.reader.Field.TheVariants.{Withdrawn, Reinstated, From, To, Open, Close}
use Rattle.texts.specs.Pushing.{spaced_number}
use Rattle.commands.specs.Grammar.{IsValid, call_text, letter, query_text, command_text}
use Rattle.commands.specs.Machine.{HoldsBounded, lead, limit}
use Rattle.commands.proofs.Numbers.{Ended, no_space_behind, number_first, number_next, same_number}

-- the measures' letters differ from one another and from the other commands'
named : ℕ → Criterion
named b =
    cond (eqb b 101) EarliestArrival (cond (eqb b 108) LatestDeparture (cond (eqb b 102) Fastest (cond (eqb b 115) LeastRiding (cond (eqb b 110) FewestRides LeastWaiting))))

named-letter : (k : Criterion) → named (letter k) ≡ k
unfolding named
named-letter EarliestArrival = refl
named-letter LatestDeparture = refl
named-letter Fastest = refl
named-letter LeastRiding = refl
named-letter FewestRides = refl
named-letter LeastWaiting = refl

same_measure : (k l : Criterion) → letter k ≡ letter l → k ≡ l
same_measure k l e = sym (named-letter k) ∙ ap named e ∙ named-letter l

pub measure_apart : (k : Criterion) → (letter k ≡ 119 → ⊥) × (letter k ≡ 114 → ⊥) × (letter k ≡ 116 → ⊥)
measure_apart EarliestArrival = (omega arith, omega arith, omega arith)
measure_apart LatestDeparture = (omega arith, omega arith, omega arith)
measure_apart Fastest = (omega arith, omega arith, omega arith)
measure_apart LeastRiding = (omega arith, omega arith, omega arith)
measure_apart FewestRides = (omega arith, omega arith, omega arith)
measure_apart LeastWaiting = (omega arith, omega arith, omega arith)

abbrev pub behind_close : Query → List ℕ
behind_close q = call_text q.call

abbrev pub behind_open : Query → List ℕ
behind_open q = spaced_number q.close ++ behind_close q

abbrev pub behind_to : Query → List ℕ
behind_to q = spaced_number q.open ++ behind_open q

abbrev pub behind_from : Query → List ℕ
behind_from q = spaced_number q.to ++ behind_to q

abbrev pub Follows : Field → Command → List ℕ → Type 0
Follows Withdrawn c bs = (n : ℕ) × (c ≡ command.Withdraw n) × (bs ≡ decimal n)
Follows Reinstated c bs = (n : ℕ) × (c ≡ command.Reinstate n) × (bs ≡ decimal n)
Follows (From k) c bs = (q : Query) × (c ≡ Find k q) × (bs ≡ decimal q.from ++ behind_from q)
Follows (To k from) c bs = (q : Query) × (c ≡ Find k q) × (q.from ≡ from) × (bs ≡ decimal q.to ++ behind_to q)
Follows (Open k from to) c bs = (q : Query) × (c ≡ Find k q) × (q.from ≡ from) × (q.to ≡ to) × (bs ≡ decimal q.open ++ behind_open q)
Follows (Close k from to opens) c bs = (q : Query) × (c ≡ Find k q) × (q.from ≡ from) × (q.to ≡ to) × (q.open ≡ opens) × (bs ≡ decimal q.close ++ behind_close q)

abbrev pub first : List ℕ → ℕ
first bs = get_or bs 0 0

-- behind a command's letter stands a space, and behind a tally's nothing
pub space_follows : (c : Command) (a b : ℕ) (bs : List ℕ) → a ∷ b ∷ bs ≡ command_text c → b ≡ 32
space_follows (command.Withdraw n) a b bs e = ap (λ l. get_or l 1 0) e
space_follows (command.Reinstate n) a b bs e = ap (λ l. get_or l 1 0) e
space_follows command.Tally a b bs e = absurd (omega (arith, ap length e))
space_follows (Find k q) a b bs e = ap (λ l. get_or l 1 0) e

pub tally_ends : (c : Command) (b : ℕ) (bs : List ℕ) → 116 ∷ b ∷ bs ≡ command_text c → ⊥
tally_ends (command.Withdraw n) b bs e = omega (arith, ap first e)
tally_ends (command.Reinstate n) b bs e = omega (arith, ap first e)
tally_ends command.Tally b bs e = omega (arith, ap length e)
tally_ends (Find k q) b bs e = (measure_apart k).2 (sym (ap first e))

pub withdrawn_follows : (c : Command) (bs : List ℕ) → 119 ∷ 32 ∷ bs ≡ command_text c → Follows Withdrawn c bs
withdrawn_follows (command.Withdraw n) bs e = (n, refl, ap (drop 2) e)
withdrawn_follows (command.Reinstate n) bs e = absurd (omega (arith, ap first e))
withdrawn_follows command.Tally bs e = absurd (omega (arith, ap first e))
withdrawn_follows (Find k q) bs e = absurd ((measure_apart k).0 (sym (ap first e)))

pub reinstated_follows : (c : Command) (bs : List ℕ) → 114 ∷ 32 ∷ bs ≡ command_text c → Follows Reinstated c bs
reinstated_follows (command.Withdraw n) bs e = absurd (omega (arith, ap first e))
reinstated_follows (command.Reinstate n) bs e = (n, refl, ap (drop 2) e)
reinstated_follows command.Tally bs e = absurd (omega (arith, ap first e))
reinstated_follows (Find k q) bs e = absurd ((measure_apart k).1 (sym (ap first e)))

pub from_follows : (k : Criterion) (c : Command) (bs : List ℕ) → letter k ∷ 32 ∷ bs ≡ command_text c → Follows (From k) c bs
from_follows k (command.Withdraw n) bs e = absurd ((measure_apart k).0 (ap first e))
from_follows k (command.Reinstate n) bs e = absurd ((measure_apart k).1 (ap first e))
from_follows k command.Tally bs e = absurd ((measure_apart k).2 (ap first e))
from_follows k (Find l q) bs e = (q, ap (λ m. Find m q) (sym (same_measure k l (ap first e))), ap (drop 2) e ∙ simp append_assoc)

-- past a number and the space behind it
past : (m n : ℕ) (bs ds : List ℕ) → m ≤ most_number → n ≤ most_number → decimal m ++ (32 ∷ bs) ≡ decimal n ++ (32 ∷ ds) → (n ≡ m) × (bs ≡ ds)
past m n bs ds h k e =
    let p = same_number m n (omega arith) (omega arith) (32 ∷ bs) (32 ∷ ds) refl refl e in (sym p.0, ap (drop 1) p.1)

pub most_between : (f : Field) → (last_stop ≤ limit f) × (limit f ≤ most_number)
most_between Withdrawn = (omega arith, omega arith)
most_between Reinstated = (omega arith, omega arith)
most_between (From k) = (omega arith, omega arith)
most_between (To k from) = (omega arith, omega arith)
most_between (Open k from to) = (omega arith, omega arith)
most_between (Close k from to opens) = (omega arith, omega arith)

pub ended : (call : Bool) → Ended (call_text call)
ended true = refl
ended false = tt

module _ (c : Command) (valid : IsValid c) where
  pub to_follows : (k : Criterion) (from : ℕ) (bs : List ℕ) → HoldsBounded (To k from) → lead (To k from) ++ bs ≡ command_text c → Follows (To k from) c bs
  to_follows k from bs h e =
      let (q, i, b) = from_follows k c (decimal from ++ (32 ∷ bs)) (simp append_assoc at e) in
      let v : IsValid (Find k q) = subst IsValid i valid in
      let p = past from q.from bs (decimal q.to ++ behind_to q) (omega arith) (omega arith) b in
      (q, i, p.0, p.1)

  pub open_follows : (k : Criterion) (from to : ℕ) (bs : List ℕ) → HoldsBounded (Open k from to) → lead (Open k from to) ++ bs ≡ command_text c → Follows (Open k from to) c bs
  open_follows k from to bs h e =
      let (q, i, f, b) = to_follows k from (decimal to ++ (32 ∷ bs)) h.0 (simp append_assoc (simp append_assoc at e)) in
      let v : IsValid (Find k q) = subst IsValid i valid in
      let p = past to q.to bs (decimal q.open ++ behind_open q) (omega arith) (omega arith) b in
      (q, i, f, p.0, p.1)

  pub close_follows : (k : Criterion) (from to opens : ℕ) (bs : List ℕ) → HoldsBounded (Close k from to opens) → lead (Close k from to opens) ++ bs ≡ command_text c → Follows (Close k from to opens) c bs
  close_follows k from to opens bs h e =
      let (q, i, f, t, b) = open_follows k from to (decimal opens ++ (32 ∷ bs)) (h.0, h.1) (simp append_assoc (simp append_assoc at e)) in
      let v : IsValid (Find k q) = subst IsValid i valid in
      let p = past opens q.open bs (decimal q.close ++ behind_close q) (omega arith) (omega arith) b in
      (q, i, f, t, p.0, p.1)

  pub follows : (f : Field) (bs : List ℕ) → HoldsBounded f → lead f ++ bs ≡ command_text c → Follows f c bs
  follows Withdrawn bs h e = withdrawn_follows c bs e
  follows Reinstated bs h e = reinstated_follows c bs e
  follows (From k) bs h e = from_follows k c bs e
  follows (To k from) bs h e = to_follows k from bs h e
  follows (Open k from to) bs h e = open_follows k from to bs h e
  follows (Close k from to opens) bs h e = close_follows k from to opens bs h e

  -- the number of a field, and what stands behind it
  pub number : (f : Field) (bs : List ℕ) → Follows f c bs → (n : ℕ) × (rest : List ℕ) × (n ≤ limit f) × Ended rest × (bs ≡ decimal n ++ rest)
  number Withdrawn bs (n, i, b) = let v : n ≤ most_number = subst IsValid i valid in (n, [], v, tt, b ∙ sym (append-nil (decimal n)))
  number Reinstated bs (n, i, b) = let v : n ≤ most_number = subst IsValid i valid in (n, [], v, tt, b ∙ sym (append-nil (decimal n)))
  number (From k) bs (q, i, b) = let v : IsValid (Find k q) = subst IsValid i valid in (q.from, behind_from q, v.0, refl, b)
  number (To k from) bs (q, i, f, b) = let v : IsValid (Find k q) = subst IsValid i valid in (q.to, behind_to q, v.1, refl, b)
  number (Open k from to) bs (q, i, f, t, b) = let v : IsValid (Find k q) = subst IsValid i valid in (q.open, behind_open q, v.2, refl, b)
  number (Close k from to opens) bs (q, i, f, t, o, b) =
      let v : IsValid (Find k q) = subst IsValid i valid in (q.close, behind_close q, v.3, ended q.call, b)

  -- behind the space before a number stands a digit
  pub digit_follows : (f : Field) (b : ℕ) (bs : List ℕ) → HoldsBounded f → lead f ++ (b ∷ bs) ≡ command_text c → IsInRange 48 57 b
  digit_follows f b bs h e =
      let (n, rest, l, r, i) = number f (b ∷ bs) (follows f (b ∷ bs) h e) in number_first n b rest bs (omega (arith, (most_between f).1)) i

  -- behind the digits of a number stands a space, or a further digit of a number within bounds
  pub space_or_digit_follows : (f : Field) (v b : ℕ) (bs : List ℕ) → HoldsBounded f → v ≤ limit f → (lead f ++ decimal v) ++ (b ∷ bs) ≡ command_text c → (b ≡ 32) ⊎ (IsInRange 48 57 b × (0 < v) × (v * 10 + (b - 48) ≤ limit f))
  space_or_digit_follows f v b bs h k e =
      let (n, rest, l, r, i) = number f (decimal v ++ (b ∷ bs)) (follows f (decimal v ++ (b ∷ bs)) h (sym (append_assoc (lead f) (decimal v) (b ∷ bs)) ∙ e)) in
      let m = most_between f in
      ⊎_elim (λ p. inl (subst Ended p.1 r)) (λ p. inr (p.0, p.1, omega (arith, p.2)))
      (number_next n v (omega arith) (omega arith) rest bs b r (sym i))

  -- nothing stands behind an event number
  pub withdrawn_ends : (v : ℕ) (bs : List ℕ) → v ≤ most_number → 119 ∷ 32 ∷ (decimal v ++ (32 ∷ bs)) ≡ command_text c → ⊥
  withdrawn_ends v bs h e =
      let (n, i, k) = withdrawn_follows c (decimal v ++ (32 ∷ bs)) e in
      let l : n ≤ most_number = subst IsValid i valid in
      no_space_behind v n bs h l k

  pub reinstated_ends : (v : ℕ) (bs : List ℕ) → v ≤ most_number → 114 ∷ 32 ∷ (decimal v ++ (32 ∷ bs)) ≡ command_text c → ⊥
  reinstated_ends v bs h e =
      let (n, i, k) = reinstated_follows c (decimal v ++ (32 ∷ bs)) e in
      let l : n ≤ most_number = subst IsValid i valid in
      no_space_behind v n bs h l k

  -- behind the last space of a query stands the letter for a call, and nothing more
  pub call_follows : (k : Criterion) (q : Query) (bs : List ℕ) → IsValid (Find k q) → (query_text k q ++ (32 ∷ [])) ++ bs ≡ command_text c → bs ≡ 118 ∷ []
  call_follows k q bs h e =
      let (p, i, f, t, o, b) = close_follows k q.from q.to q.open (decimal q.close ++ (32 ∷ bs)) (h.0, h.1, h.2) (simp append_assoc (simp append_assoc at e)) in
      let v : IsValid (Find k p) = subst IsValid i valid in
      called p.call (same_number q.close p.close (omega arith) (omega arith) (32 ∷ bs) (behind_close p) refl (ended p.call) b).1
    where
      called : (call : Bool) → 32 ∷ bs ≡ call_text call → bs ≡ 118 ∷ []
      called true k = ap (drop 1) k
      called false k = absurd (omega (arith, ap length k))
