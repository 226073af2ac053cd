-- What was served.
use Rattle.std.proofs.Common.{◌≡◌, ℕ, ⊎_elim, List, [], length, Some, Option, Ok, Err, IsOk, Result, sym, refl, ap, ◌∙◌, subst, arith, take_all}
use Rattle.std.specs.Prelude.{replicate}
use Rattle.std.specs.Result.{IsErr}
use Rattle.std.proofs.lemmas.Bool.{both_ways}
use Rattle.std.proofs.lemmas.List.{length-replicate}
use Rattle.faults.specs.declared.Fault.{Fault}
use Rattle.records.specs.declared.event.Event.{Event}
use Rattle.replies.specs.Printed.{reply_line}
use Rattle.dialogue.specs.Conversations.{IsNewSession, IsReplyText, WholeConversation}
use Rattle.dialogue.specs.Obeying.{Session}
use Rattle.conversations.specs.Streams.{Converses, Serves, WritesText}

-- how long a new table is
pub long : {X : Type 0} (now items : List X) (n m : ℕ) (x : X) → now ≡ items → items ≡ replicate n x → n ≡ m → length now ≡ m
long now items n m x e f h = ap (λ l. length l) (e ∙ f) ∙ length-replicate n x ∙ h

clash : {T E : Type 0} (r : Result T E) → IsOk r → IsErr r → ⊥
clash (Ok x) o f = both_ways _ refl f
clash (Err e) o f = both_ways _ refl o

-- a text that was written whole to no bytes
from_written : {E : Type 0} (t xs : List ℕ) (r : Result (Unit {0}) E) → IsOk r → WritesText t (Some []) r (Some xs) → xs ≡ t
from_written t xs (Ok x) o w = w.front ∙ take_all w.count t (omega (arith, w.whole))
from_written t xs (Err f) o w = absurd (both_ways _ refl o)

module _ {E : Type 0} where
  from_conversed : (es : List Event) (lines xs : List ℕ) (r : Result (Unit {0}) E) (r' : Option (List ℕ)) (b a : Session) → IsOk r → IsNewSession es b → Converses b lines (Some []) r r' (Some xs) a → IsReplyText (Ok es) lines xs
  from_conversed es lines xs (Ok x) r' b a o new (t, held, end, appended) =
      (b, a, new, subst (λ y. WholeConversation b lines y a) (sym appended) held)
  from_conversed es lines xs (Err e) r' b a o new c = absurd (both_ways _ refl o)

  pub said_of : (o : Result (List Event) Fault) (lines xs : List ℕ) (r : Result (Unit {0}) E) (w r' w' : Option (List ℕ)) → IsOk r → w ≡ Some [] → w' ≡ Some xs → Serves o lines w r r' w' → IsReplyText o lines xs
  said_of (Ok es) lines xs r w r' w' ok e f s =
      ⊎_elim (λ h. absurd (clash r ok h.0)) (λ h. from_conversed es lines xs r r' h.0 h.1 ok h.2 (rw (e, f) at h.3)) s
  said_of (Err fault) lines xs r w r' w' ok e f s =
      from_written (reply_line (Err fault) []) xs r ok (rw (e, f) at s.0)
