-- What a line leaves extends the history of what it met.
use Rattle.std.proofs.Common.{[], ◌∷◌, ◌++◌, Result, sym, refl, ap, ◌∙◌, subst}
use Rattle.std.proofs.lemmas.List.{append_assoc}
use Rattle.faults.specs.declared.Fault.{Fault}
use Rattle.measures.specs.declared.criterion.Criterion.{Criterion}
use Rattle.measures.specs.Criteria.{LabelKind, kind_of, number, trip}
use Rattle.journeys.specs.declared.query.Query.{Query}
use Rattle.commands.specs.declared.command.Command.{Command}
use Rattle.commands.specs.declared.command.Command.TheVariants.{Find, Reinstate, Tally, Withdraw}
use Rattle.replies.specs.declared.reply.Reply.{Reply}
use Rattle.timetable_post.specs.Calls.{Call}
use Rattle.timetable_post.specs.Histories.{Continues, Explains, ExtendsHistory}
use Rattle.timetable_post.specs.Posts.{Performs, PostState}
use Rattle.timetable_post.specs.Queries.{QueryState}
use Rattle.dialogue.specs.Obeying.{Asks, AsksBy, Obeys, Session, number_part, trip_part}

-- nothing changes
pub extends_itself : (b : PostState) → ExtendsHistory b b
extends_itself b = record { list = refl; extends = λ h e. ([], e) }

-- what extends what extends the start extends the start
pub extends_on : (b m a : PostState) → ExtendsHistory b m → ExtendsHistory m a → ExtendsHistory b a
extends_on b m a c d =
    record {
      list = d.list ∙ c.list;
      extends =
          λ h e.
          let first = c.extends h e in
          let then = d.extends (first.0 ++ h) first.1 in
          (then.0 ++ first.0, subst (λ l. Explains l a) (sym (append_assoc then.0 first.0 h)) then.1);
    }

-- a call extends the history by itself
call_extends : (b : PostState) (c : Call) (a : PostState) → Performs b c a → Continues b c a → ExtendsHistory b a
call_extends b c a performs history =
    record { list = ap (λ x. x.events) performs.after; extends = λ h e. (c ∷ [], history h e) }

module _ (b : Session) (reply : Result Reply Fault) (a : Session) where
  query_extends : {X : Type 0} (k : Criterion) (q : Query) (x y : QueryState X) → Asks k q x reply y → ExtendsHistory x.post y.post
  query_extends k q x y asks = call_extends x.post _ y.post asks.queries.performs asks.history

  find_extends : (i : LabelKind) (k : Criterion) (q : Query) → AsksBy i k q b reply a → ExtendsHistory b.post a.post
  find_extends number k q asks = query_extends k q (number_part b) (number_part a) asks.0
  find_extends trip k q asks = query_extends k q (trip_part b) (trip_part a) asks.0

  pub obeys_extends : (c : Command) → Obeys b c reply a → ExtendsHistory b.post a.post
  obeys_extends (Withdraw e) o = call_extends b.post _ a.post o.performs o.history
  obeys_extends (Reinstate e) o = call_extends b.post _ a.post o.performs o.history
  obeys_extends Tally o = subst (λ x. ExtendsHistory b.post x.post) (sym o.same) (call_extends b.post _ b.post o.performs o.history)
  obeys_extends (Find k q) o = find_extends (kind_of k) k q o
