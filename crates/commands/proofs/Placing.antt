-- How long the texts of commands are, and what copying one out writes.
use Rattle.std.proofs.Common.{◌++◌, ◌≡◌, ℕ, ◌≤◌, Bool, true, false, List, length, take, drop, decimal, Some, None, Option, sym, ap, ◌∙◌, arith}
use Rattle.std.proofs.lemmas.Fmt.{length-decimal-le}
use Rattle.std.proofs.lemmas.List.{length-append, take_at}
use Rattle.records.specs.Limits.{last_stop, most_number}
use Rattle.journeys.specs.declared.query.Query.{Query}
use Rattle.measures.specs.declared.criterion.Criterion.{Criterion}
use Rattle.commands.specs.declared.command.Command.{Command}
use Rattle.commands.specs.declared.command.Command.TheVariants.{Withdraw, Reinstate, Tally, Find}
use Rattle.texts.specs.Pushing.{CopiesOut}
use Rattle.commands.specs.Grammar.{ShortTexts, IsValid, call_text, query_text, command_text}
use Rattle.commands.specs.Writing.{WritesIfRoom}
use Rattle.commands.proofs.Texts.{reads_from_answered}

pub length_stop : (n : ℕ) → n ≤ last_stop → length (decimal n) ≤ 3
length_stop n h = length-decimal-le 3 n (omega arith) (omega arith) (omega arith)

pub length_number : (n : ℕ) → n ≤ most_number → length (decimal n) ≤ 6
length_number n h = length-decimal-le 6 n (omega arith) (omega arith) (omega arith)

pub length-question : (k : Criterion) (q : Query) → IsValid (Find k q) → length (query_text k q) ≤ 23
length-question k q v =
    simp length-append (omega (arith, length_stop q.from v.0, length_stop q.to v.1, length_number q.open v.2, length_number q.close v.3))

pub short_texts : ShortTexts
short_texts (Withdraw n) v = omega (arith, length_number n v)
short_texts (Reinstate n) v = omega (arith, length_number n v)
short_texts Tally v = omega arith
short_texts (Find k q) v = omega (arith, length-question k q v, length-append (query_text k q) (call_text q.call), length-calling q.call)
  where
    length-calling : (call : Bool) → length (call_text call) ≤ 2
    length-calling true = omega arith
    length-calling false = omega arith

-- a command's text that was copied over the front of other bytes
pub wrote : (c : Command) (k : ℕ) (t m m' : List ℕ) (a : Option ℕ) → length t ≤ k → IsValid c → t ≡ command_text c → CopiesOut k t m a m' → WritesIfRoom c m a m'
wrote c k t m m' None s v e h = (h.0, λ _. omega (arith, s, h.1, ap length e))
wrote c k t m m' (Some n) s v e h =
    let over = h.1 in
    let front = ap (take n) over.2 ∙ take_at t (drop n m) n (sym over.0) ∙ e in
    record {
      valid = v;
      over = (over.0 ∙ ap length e, over.1, over.2 ∙ ap (λ t. t ++ drop n m) e);
      reads = λ a r. reads_from_answered (take n m') a r c (v, front);
    }
