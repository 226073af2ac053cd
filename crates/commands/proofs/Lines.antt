-- A line up to a place, and what the state there says of the whole.
use Rattle.std.proofs.Common.{◌≡◌, ℕ, ◌+◌, ◌<◌, ◌≤◌, List, [], ◌∷◌, ◌++◌, length, get_or, take, drop, Some, None, Option, sym, refl, ap, ◌∙◌, subst, ⊎_elim, arith}
use Rattle.std.proofs.lemmas.List.{append_assoc, append-nil, take_all, take-append-drop, take_more, take-take}
use Rattle.std.proofs.lemmas.Bool.{cases_lt}
use Rattle.std.specs.Option.{ok_or}
use Rattle.faults.specs.declared.Fault.TheVariants.{NotACommand}
use Rattle.commands.specs.declared.command.Command.{Command}
use Rattle.commands.specs.declared.reader.State.{State}
use Rattle.commands.specs.Grammar.{IsAnswered, Begins, IsRefused, Spells}
use Rattle.commands.specs.Machine.{IsBounded, Finishes, Moves, text_so_far}
use Rattle.commands.proofs.Ends.{begins_at}

-- what begins a command begins one part by part
begins_less : (line : List ℕ) (i k : ℕ) → i ≤ k → Begins (take k line) → Begins (take i line)
begins_less line i k h (c, rest, p) =
    let e : take k line ≡ take i line ++ drop i (take k line) = sym (take-append-drop i (take k line)) ∙ ap (λ l. l ++ drop i (take k line)) (take-take i k line h) in
    (c, drop i (take k line) ++ rest, (p.0, sym (append_assoc (take i line) (drop i (take k line)) rest) ∙ ap (λ l. l ++ rest) (sym e) ∙ p.1))

begins_whole : (line : List ℕ) (i : ℕ) (c : Command) → i ≤ length line → Spells line c → Begins (take i line)
begins_whole line i c h p = begins_less line i (length line) h (c, [], (p.0, append-nil (take (length line) line) ∙ take_all (length line) line (omega arith) ∙ p.1))

module _ (line : List ℕ) (i : ℕ) (s : State) (bounded : IsBounded s) (read : take i line ≡ text_so_far s) where
  -- a byte with which no command goes on
  pub refused_at : i < length line → Moves s (get_or line i 0) None → IsRefused line (NotACommand i)
  refused_at l h =
      let stop : Begins (take (i + 1) line) → ⊥ = subst (λ bs. Begins bs → ⊥) (ap (λ bs. bs ++ (get_or line i 0 ∷ [])) (sym read) ∙ sym (take_more line i 0 l)) h in
      record {
        place = i;
        fault = refl;
        within = omega arith;
        begins = subst Begins (sym read) (begins_at s bounded);
        furthest = λ k m b. ⊎_elim (λ j. absurd (stop (begins_less line (i + 1) k (omega arith) b))) (λ j. j) (cases_lt i k);
        none = λ c p. stop (begins_whole line (i + 1) c (omega arith) p);
      }

  pub read_on : i < length line → (t : State) → Moves s (get_or line i 0) (Some t) → take (i + 1) line ≡ text_so_far t
  read_on l t h = take_more line i 0 l ∙ ap (λ bs. bs ++ (get_or line i 0 ∷ [])) read ∙ sym h.1

  -- the end of the line
  pub answered_at : length line ≤ i → (o : Option Command) → Finishes s o → IsAnswered line (ok_or o (NotACommand (length line)))
  answered_at l (Some c) h = (h.0, sym (take_all i line l) ∙ read ∙ h.1)
  answered_at l None h =
      let e = sym (take_all i line l) ∙ read in
      record {
        place = length line;
        fault = refl;
        within = omega arith;
        begins = subst Begins (sym e ∙ sym (take_all (length line) line (omega arith))) (begins_at s bounded);
        furthest = λ k m b. m;
        none = λ c p. h c (p.0, sym e ∙ p.1);
      }
