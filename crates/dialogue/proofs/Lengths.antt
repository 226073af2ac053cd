-- The line of a reply is never longer than longest_line bytes.
use Rattle.std.proofs.Common.{◌≡◌, ℕ, ◌+◌, ◌*◌, ◌^◌, ◌<◌, ◌≤◌, Bool, false, List, [], ◌∷◌, ◌++◌, length, get_or, Some, None, Ok, Err, codes, decimal, Option, Result, sym, refl, ap, subst, inl, inr, add-mul, arith}
use Rattle.std.proofs.lemmas.Fmt.{length-decimal-le}
use Rattle.std.proofs.ByRecursion.{All-weaker}
use Rattle.std.proofs.lemmas.List.{length-append}
use Rattle.std.proofs.lemmas.List.Sums.{count_by-le-length}
use Rattle.std.specs.List.{AllByRecursion}
use Rattle.faults.specs.declared.Fault.{Fault}
use Rattle.faults.specs.declared.Fault.TheVariants.{NoJourney, NotACommand}
use Rattle.faults.specs.Numbered.{report_of}
use Rattle.faults.specs.Rules.{first_fault, ruling, ruling_by}
use Rattle.faults.proofs.Rules.{fault_met}
use Rattle.records.specs.declared.event.Event.{Event}
use Rattle.records.specs.Events.{IsTimetable}
use Rattle.records.specs.Limits.{longest_line, most_events, most_number}
use Rattle.measures.specs.Measures.{Ops}
use Rattle.measures.specs.declared.criterion.Criterion.{Criterion}
use Rattle.measures.specs.Criteria.{LabelKind, kind_of, number, ops, trip}
use Rattle.journeys.specs.declared.query.Query.{Query}
use Rattle.journeys.specs.Journeys.{AllNeighbours}
use Rattle.journeys.specs.Marks.{is_in_force}
use Rattle.journeys.proofs.Spans.{journey_span}
use Rattle.journeys.specs.declared.answer.Answer.{Answer}
use Rattle.journeys.specs.Answers.{named_steps}
use Rattle.search.specs.Searches.{NamesJourney}
use Rattle.commands.specs.declared.command.Command.{Command}
use Rattle.commands.specs.declared.command.Command.TheVariants.{Find, Reinstate, Tally, Withdraw}
use Rattle.commands.specs.Grammar.{IsValid}
use Rattle.replies.specs.declared.reply.Reply.{Reply}
use Rattle.replies.specs.declared.reply.Reply.TheVariants.{Count, Journey}
use Rattle.replies.specs.Printed.{newline, numbers, reply_line}
use Rattle.replies.proofs.Fits.{told_numbers}
use Rattle.timetable_post.specs.Calls.{Notice, notice_rules, reinstatement, withdrawal}
use Rattle.timetable_post.specs.Queries.{AnswersQuery, QueryState, checks_of}
use Rattle.dialogue.specs.Obeying.{Asks, AsksBy, Notices, Obeys, Session, notice_reply, number_part, query_reply, trip_part}

-- numbers of at most k digits take k + 1 bytes each
length-numbers : (k : ℕ) → 0 < k → (ns : List ℕ) → AllByRecursion (λ n. (n < 10 ^ k) × (n < 2 ^ 64)) ns → length (numbers ns) ≤ length ns * (k + 1)
length-numbers k p [] a = omega arith
length-numbers k p (n ∷ ns) a =
    let here = length-decimal-le k n p a.0.0 a.0.1 in
    let rest = length-numbers k p ns a.1 in
    let one : (length ns + 1) * (k + 1) ≡ length ns * (k + 1) + 1 * (k + 1) = add-mul (length ns) 1 (k + 1) in
    omega (arith, length-append (decimal n) (numbers ns), here, rest, one)

-- rising numbers from m on and below n
rising_from : (n m : ℕ) (js : List ℕ) → AllNeighbours ◌<◌ (m ∷ js) → AllByRecursion (λ j. j < n) (m ∷ js) → length js + m < n
rising_from n m [] c a = omega (arith, a.0)
rising_from n m (j ∷ js) c a = omega (arith, rising_from n j js c.1 a.1, c.0)

rising_few : (n : ℕ) (js : List ℕ) → AllNeighbours ◌<◌ js → AllByRecursion (λ j. j < n) js → length js ≤ n
rising_few n [] c a = omega arith
rising_few n (j ∷ js) c a = omega (arith, rising_from n j js c a)

-- a fault that is told in small numbers
abbrev Small : Fault → Type 0
Small f = ((report_of f).number < 100) × ((report_of f).layer < 100) × ((report_of f).place < 2 ^ 64)

refused_short : (f : Fault) (steps : List ℕ) → Small f → length (reply_line (Err f) steps) ≤ longest_line
refused_short f steps s =
    let r = report_of f in
    let all : AllByRecursion (λ n. (n < 10 ^ 20) × (n < 2 ^ 64)) (r.number ∷ r.layer ∷ r.place ∷ []) =
    ((omega (arith, s.0), omega (arith, s.0)), ((omega (arith, s.1), omega (arith, s.1)), ((omega (arith, s.2), s.2), tt))) in
    subst (λ x. length (x ++ newline) ≤ longest_line) (told_numbers r) (omega (
      arith,
      length-numbers 20 (omega arith) (r.number ∷ r.layer ∷ r.place ∷ []) all,
      length-append (numbers (r.number ∷ r.layer ∷ r.place ∷ [])) newline,
    ))

pub unknown_line_short : (place : ℕ) (steps : List ℕ) (f : Fault) → place < 2 ^ 64 → f ≡ NotACommand place → length (reply_line (Err f) steps) ≤ longest_line
unknown_line_short place steps f h e =
    subst (λ g. length (reply_line (Err g) steps) ≤ longest_line) (sym e) (refused_short (NotACommand place) steps (omega arith, omega arith, h))

-- notices
pub notice_short : (n : ℕ) (out : Bool) (k : Notice) (e : ℕ) (steps : List ℕ) (r : Result (Unit {0}) Fault) → e < 2 ^ 64 → r ≡ ruling (notice_rules n out k e) tt → length (reply_line (notice_reply r) steps) ≤ longest_line
notice_short n out k e steps r h j = by_fault (first_fault (notice_rules n out k e)) refl j
  where
    by_fault : (o : Option Fault) → first_fault (notice_rules n out k e) ≡ o → r ≡ ruling_by o tt → length (reply_line (notice_reply r) steps) ≤ longest_line
    by_fault None b i = subst (λ x. length (reply_line (notice_reply x) steps) ≤ longest_line) (sym i) (omega arith)
    by_fault (Some f) b i =
        subst (λ x. length (reply_line (notice_reply x) steps) ≤ longest_line) (sym i)
        (refused_short f steps (fault_met Small (notice_rules n out k e) f ((omega arith, omega arith, h), ((omega arith, omega arith, h), tt)) b))

pub count_short : (n : ℕ) (steps : List ℕ) → n < 2 ^ 64 → length (reply_line (Ok (Count n)) steps) ≤ longest_line
count_short n steps h =
    omega (arith, length-decimal-le 20 n (omega arith) (omega arith) h, length-append (decimal n) newline)

-- queries
rule_small : {L X : Type 0} (m : Ops L) (q : Query) (b : QueryState X) (f : Fault) → first_fault (checks_of m q b) ≡ Some f → Small f
rule_small m q b f h =
    fault_met Small (checks_of m q b) f (
      (omega arith, omega arith, omega arith),
      ((omega arith, omega arith, omega arith), ((omega arith, omega arith, omega arith), ((omega arith, omega arith, omega arith), tt))),
    ) h

line_short : (b e r k : ℕ) (js : List ℕ) → b < 10 ^ 6 → e < 10 ^ 6 → r < 10 ^ 6 → k < 10 ^ 6 → AllByRecursion (λ j. j < most_events) js → length js ≤ most_events → length ((codes "go" ++ (numbers (b ∷ e ∷ r ∷ k ∷ []) ++ (codes " :" ++ numbers js))) ++ newline) ≤ longest_line
line_short b e r k js hb he hr hk all few =
    let told = length-numbers 6 (omega arith) (b ∷ e ∷ r ∷ k ∷ []) ((hb, omega arith), ((he, omega arith), ((hr, omega arith), ((hk, omega arith), tt)))) in
    let walked = length-numbers 4 (omega arith) js (All-weaker (λ j. j < most_events) (λ j. (j < 10 ^ 4) × (j < 2 ^ 64)) (λ j h. (omega arith, omega arith)) js all) in
    let told_words = numbers (b ∷ e ∷ r ∷ k ∷ []) in
    let steps_words = codes " :" ++ numbers js in
    omega (arith, length-append (told_words ++ steps_words) newline, length-append told_words steps_words, told, walked, few)

journey_short : {L : Type 0} (m : Ops L) (es : List Event) (p : ℕ → Bool) (q : Query) → IsTimetable es → (steps : List ℕ) (x : Answer) (steps' : List ℕ) → NamesJourney m es p q steps x steps' → length (reply_line (Ok (Journey x)) steps') ≤ longest_line
journey_short m es p q listed steps x steps' n =
    let js = named_steps x steps' in
    let j = n.fits.journey in
    let span = journey_span es p listed q js j in
    let begin = ap (λ y. y.verdict.begin) n.answer in
    let end = ap (λ y. y.verdict.end) n.answer in
    let ridden = ap (λ y. y.verdict.riding) n.answer in
    let rode = ap (λ y. y.verdict.rides) n.answer in
    let few = rising_few (length es) js j.rising (All-weaker _ (λ i. i < length es) (λ i h. h.0) js j.known) in
    line_short x.verdict.begin x.verdict.end x.verdict.riding x.verdict.rides js (omega (arith, span, begin)) (omega (arith, span, end)) (omega (arith, span, ridden))
    (omega (arith, span, rode)) (All-weaker _ (λ i. i < most_events) (λ i h. omega (arith, h.0, listed.few)) js j.known) (omega (arith, few, listed.few))

pub query_short : {L X : Type 0} (m : Ops L) (q : Query) (b : QueryState X) → IsTimetable b.post.events → (r : Result Answer Fault) (steps' : List ℕ) → AnswersQuery m q b r steps' → length (reply_line (query_reply r) steps') ≤ longest_line
query_short m q b listed (Ok x) steps' a = journey_short m b.post.events (is_in_force b.post.marks) q listed b.steps x steps' a.1
query_short m q b listed (Err f) steps' (same, inl broken) = refused_short f steps' (rule_small m q b f broken)
query_short m q b listed (Err f) steps' (same, inr (kept, is, none)) =
    subst (λ g. length (reply_line (Err g) steps') ≤ longest_line) (sym is) (refused_short NoJourney steps' (omega arith, omega arith, omega arith))

-- whatever a command does, the line of its reply is short
module _ (b : Session) (reply : Result Reply Fault) (a : Session) where
  asks_short : {X : Type 0} (k : Criterion) (q : Query) (x y : QueryState X) → Asks k q x reply y → length (reply_line reply y.steps) ≤ longest_line
  asks_short k q x y asks =
      subst (λ r. length (reply_line r y.steps) ≤ longest_line) (sym asks.says) (query_short (ops k) q x asks.queries.performs.post.listed asks.answer y.steps asks.queries.answers)

  find_short : (i : LabelKind) (k : Criterion) (q : Query) → AsksBy i k q b reply a → length (reply_line reply a.steps) ≤ longest_line
  find_short number k q asks = asks_short k q (number_part b) (number_part a) asks.0
  find_short trip k q asks = asks_short k q (trip_part b) (trip_part a) asks.0

  notices_short : (k : Notice) (e : ℕ) → e ≤ most_number → Notices k e b reply a → length (reply_line reply a.steps) ≤ longest_line
  notices_short k e v n =
      subst (λ r. length (reply_line r a.steps) ≤ longest_line) (sym n.says)
      (notice_short (length b.post.events) (get_or b.post.marks e false) k e a.steps n.answer (omega arith) n.performs.right)

  pub obeys_short : (c : Command) → IsValid c → Obeys b c reply a → length (reply_line reply a.steps) ≤ longest_line
  obeys_short (Withdraw e) v o = notices_short withdrawal e v o
  obeys_short (Reinstate e) v o = notices_short reinstatement e v o
  obeys_short Tally v o =
      subst (λ r. length (reply_line r a.steps) ≤ longest_line) (sym o.says)
      (count_short o.count a.steps (omega (arith, o.performs.right, count_by-le-length (λ x. x) b.post.marks, o.performs.post.long)))
  obeys_short (Find k q) v o = find_short (kind_of k) k q o
