-- A text is one command's only, so a line has one answer.
use Rattle.std.proofs.Common.{◌≡◌, ℕ, ◌≤◌, Bool, true, false, List, [], ◌∷◌, ◌++◌, length, Ok, Err, decimal, Result, sym, refl, ap, ◌∙◌, subst, arith}
use Rattle.std.proofs.lemmas.Fmt.{decimal_injective}
use Rattle.std.proofs.lemmas.List.{append_assoc}
use Rattle.faults.specs.declared.Fault.{Fault}
use Rattle.records.specs.Limits.{most_number}
use Rattle.journeys.specs.declared.query.Query.{Query}
use Rattle.measures.specs.declared.criterion.Criterion.{Criterion}
use Rattle.commands.specs.declared.command.Command.{Command}
use Rattle.commands.specs.declared.command.Command.TheVariants.{Withdraw, Reinstate, Tally, Find}
use Rattle.commands.specs.declared.reader.Field.TheVariants.{Close}
use Rattle.commands.specs.Grammar.{IsAnswered, OneCommand, Spells, IsValid, call_text, command_text}
use Rattle.commands.proofs.Followed.{Follows, behind_close, close_follows, ended, reinstated_follows, withdrawn_follows}
use Rattle.commands.proofs.Numbers.{same_number}

tally : (c : Command) → command_text c ≡ 116 ∷ [] → c ≡ Tally
tally (Withdraw n) e = absurd (omega (arith, ap length e))
tally (Reinstate n) e = absurd (omega (arith, ap length e))
tally Tally e = refl
tally (Find k q) e = absurd (omega (arith, ap length e))

same_call : (b d : Bool) → call_text b ≡ call_text d → d ≡ b
same_call true true e = refl
same_call true false e = absurd (omega (arith, ap length e))
same_call false true e = absurd (omega (arith, ap length e))
same_call false false e = refl

same_query : (p q : Query) → p.from ≡ q.from → p.to ≡ q.to → p.open ≡ q.open → p.close ≡ q.close → p.call ≡ q.call → p ≡ q
same_query p q f t o l a = λ i. record { from = f i; to = t i; «open» = o i; close = l i; call = a i }

same_find : (c : Command) (k : Criterion) (q : Query) → IsValid c → IsValid (Find k q) → Follows (Close k q.from q.to q.open) c (decimal q.close ++ behind_close q) → c ≡ Find k q
same_find c k q v w (p, i, f, t, o, b) =
    let l : IsValid (Find k p) = subst IsValid i v in
    let s = same_number q.close p.close (omega arith) (omega arith) (behind_close q) (behind_close p) (ended q.call) (ended p.call) b in
    i ∙ ap (Find k) (same_query p q f t o (sym s.0) (same_call q.call p.call s.1))

pub unique : OneCommand
unique c (Withdraw n) v w e =
    let (m, i, b) = withdrawn_follows c (decimal n) (sym e) in
    let l : m ≤ most_number = subst IsValid i v in
    i ∙ ap Withdraw (sym (decimal_injective n m (omega arith) (omega arith) b))
unique c (Reinstate n) v w e =
    let (m, i, b) = reinstated_follows c (decimal n) (sym e) in
    let l : m ≤ most_number = subst IsValid i v in
    i ∙ ap Reinstate (sym (decimal_injective n m (omega arith) (omega arith) b))
unique c Tally v w e = tally c e
unique c (Find k q) v w e =
    same_find c k q v w (close_follows c v k q.from q.to q.open (decimal q.close ++ behind_close q) (w.0, w.1, w.2) (simp append_assoc (sym (simp append_assoc at e))))

-- one answer for each line
pub reads_from_answered : (line : List ℕ) (r : Result Command Fault) → IsAnswered line r → (c : Command) → Spells line c → r ≡ Ok c
reads_from_answered line (Ok d) h c p = ap Ok (unique d c h.0 p.0 (sym h.1 ∙ p.1))
reads_from_answered line (Err f) h c p = absurd (h.none c p)
