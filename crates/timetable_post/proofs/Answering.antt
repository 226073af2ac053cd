-- What a query does, from what the search found.
use Rattle.std.proofs.Common.{◌≡◌, ℕ, cond, List, length, is_none, Some, None, Ok, Err, Option, Result, sym, refl, ap, ◌∙◌, subst, inl, inr, arith}
use Rattle.std.specs.Option.{ok_or}
use Rattle.std.proofs.lemmas.Option.{same_Some}
use Rattle.faults.specs.declared.Fault.{Fault}
use Rattle.faults.specs.declared.Fault.TheVariants.{NoJourney}
use Rattle.faults.specs.Rules.{IsKept, Rule, first_fault, ruling}
use Rattle.faults.proofs.Rules.{broken_from_err, fault_met, first_broken_broken, first_broken_kept, kept_from_ok, value_from_ok}
use Rattle.records.specs.declared.event.Event.{Event}
use Rattle.measures.specs.Measures.{Ops, ◌≼◌}
use Rattle.journeys.specs.declared.query.Query.{Query}
use Rattle.journeys.specs.Best.{NothingFits}
use Rattle.journeys.specs.Formulas.{score_of}
use Rattle.journeys.specs.Journeys.{Fits}
use Rattle.journeys.specs.Queries.{query_rules}
use Rattle.journeys.specs.Marks.{is_in_force}
use Rattle.journeys.specs.declared.answer.Answer.{Answer}
use Rattle.search.specs.Lengths.{table_rules}
use Rattle.journeys.specs.Answers.{named_steps}
use Rattle.search.specs.Searches.{FindsBest, NamesJourney, reads_of}
use Rattle.timetable_post.specs.Calls.{IsRightAnswer}
use Rattle.timetable_post.specs.Posts.{IsPost, PostState, post_state}
use Rattle.timetable_post.specs.Queries.{AnswersQuery, Queries, QueryState, checks_of, lengths_of}

-- a list of rules is not kept and broken
kept_broken : {P : Type 0} (o : Option Fault) (f : Fault) → o ≡ None → o ≡ Some f → P
kept_broken o f k b = let z : ◌≡◌ {A = ℕ} 0 1 = cc in absurd (omega arith)

err_same : {T : Type 0} {f g : Fault} → ◌≡◌ {A = Result T Fault} (Err f) (Err g) → f ≡ g
err_same e = cc

module _ {L X : Type 0} (m : Ops L) (q : Query) (b : QueryState X) (post : IsPost b.post) where
  abbrev es : List Event
  es = b.post.events

  -- no rule refuses with "no journey"
  no_rule_so : (f : Fault) → first_fault (checks_of m q b) ≡ Some f → f ≡ NoJourney → ⊥
  no_rule_so f h =
      fault_met (λ g. g ≡ NoJourney → ⊥) (checks_of m q b) f (
        λ e. let z : ◌≡◌ {A = ℕ} 0 1 = cc in omega arith,
        (
          λ e. let z : ◌≡◌ {A = ℕ} 0 1 = cc in omega arith,
          (
            λ e. let z : ◌≡◌ {A = ℕ} 0 1 = cc in omega arith,
            (λ e. let z : ◌≡◌ {A = ℕ} 0 1 = cc in omega arith, tt),
          ),
        ),
      ) h

  -- an answer by the case is right
  right_by_case : (r : Result Answer Fault) (steps' : List ℕ) → AnswersQuery m q b r steps' → IsRightAnswer (checks_of m q b) es (is_in_force b.post.marks) q (score_of m es) r steps'
  right_by_case (Ok x) steps' (kept, n) =
      record {
        names =
            λ a e.
            let same : x ≡ a = cc in
            subst
            (λ y.
            IsKept (checks_of m q b)
            × Fits es (is_in_force b.post.marks) q (named_steps y steps')
            × (y.verdict.score ≡ score_of m es (named_steps y steps'))
            × ((js : List ℕ) → Fits es (is_in_force b.post.marks) q js → y.verdict.score ≼ score_of m es js))
            same (kept, n.fits, ap (λ y. y.verdict.score) n.answer, n.least);
        named_so = λ _ js f. (x, refl);
        none = λ e. let z : ◌≡◌ {A = ℕ} 0 1 = cc in absurd (omega arith);
        none_so = λ _ none. absurd (none (named_steps x steps') n.fits);
        refused = λ f e. kept_broken _ f kept e;
      }
  right_by_case (Err f) steps' (same, inl broken) =
      record {
        names = λ a e. let z : ◌≡◌ {A = ℕ} 0 1 = cc in absurd (omega arith);
        named_so = λ kept js fits. kept_broken _ f kept broken;
        none = λ e. absurd (no_rule_so f broken (err_same e));
        none_so = λ kept none. kept_broken _ f kept broken;
        refused = λ g e. ap Err (same_Some _ _ (sym broken ∙ e));
      }
  right_by_case (Err f) steps' (same, inr (kept, is, none)) =
      record {
        names = λ a e. let z : ◌≡◌ {A = ℕ} 0 1 = cc in absurd (omega arith);
        named_so = λ _ js f. absurd (none js f);
        none = λ e. (kept, none);
        none_so = λ _ _. ap Err is;
        refused = λ g e. kept_broken _ g kept e;
      }

  -- the post after the query, by the first broken rule
  abbrev post_by : Option Fault → PostState
  post_by o = post_state es (cond (is_none o) (reads_of es q.close) b.post.place) b.post.marks

  queries_by : (r : Result Answer Fault) (a : QueryState X) → AnswersQuery m q b r a.steps → a.post ≡ post_by (first_fault (checks_of m q b)) → ((f : Fault) → first_fault (checks_of m q b) ≡ Some f → a ≡ b) → Queries m q b r a
  queries_by r a answers after refused =
      record {
        answers = answers;
        refused = refused;
        performs = record { post = post; right = right_by_case r a.steps answers; after = after };
      }

  -- a check that is not passed
  queries_refused : (r : Result Answer Fault) (f : Fault) (a : QueryState X) → r ≡ Err f → first_fault (checks_of m q b) ≡ Some f → a ≡ b → Queries m q b r a
  queries_refused r f a is broken same =
      subst (λ x. Queries m q b x a) (sym is)
      (queries_by (Err f) a (ap (λ x. x.steps) same, inl broken) (ap (λ x. x.post) same ∙ ap post_by (sym broken)) (λ _ _. same))

  abbrev rules : List Rule
  rules = table_rules (length es) (lengths_of b)

  -- a query that is refused by itself
  pub queries_unchecked : (r : Result Answer Fault) (f : Fault) → r ≡ Err f → ruling (query_rules q) q ≡ Err f → Queries m q b r b
  queries_unchecked r f is e = queries_refused r f b is (first_broken_broken (query_rules q) rules f (broken_from_err (first_fault (query_rules q)) q f e)) refl

  -- one that passes as k goes on to its tables and the search
  module _ (k : Query) (e : ruling (query_rules q) q ≡ Ok k) (a : QueryState X) where
    passed : first_fault (checks_of m q b) ≡ first_fault rules
    passed = first_broken_kept (query_rules q) rules (kept_from_ok (first_fault (query_rules q)) q k e)

    pub queries_short : (r : Result Answer Fault) (f : Fault) → r ≡ Err f → first_fault rules ≡ Some f → a ≡ b → Queries m q b r a
    queries_short r f is broken same = queries_refused r f a is (passed ∙ broken) same

    pub queries_found : a.post.marks ≡ b.post.marks → (r : Result Answer Fault) (o : Option Answer) → r ≡ ok_or o NoJourney → IsKept rules × FindsBest m es (is_in_force b.post.marks) k b.steps o a.steps → (a.post.events ≡ es) × (a.post.place ≡ reads_of es k.close) → Queries m q b r a
    queries_found marks r o is found read =
        subst (λ x. Queries m q b x a) (sym is)
        (queries_by (ok_or o NoJourney) a (by_case o found) (moved ∙ ap post_by (sym (passed ∙ found.0)))
        (λ f broken. kept_broken _ f (passed ∙ found.0) broken))
      where
        same : q ≡ k
        same = value_from_ok (first_fault (query_rules q)) q k e

        moved : a.post ≡ post_state es (reads_of es q.close) b.post.marks
        moved =
            ap (λ x. post_state x a.post.place a.post.marks) read.0
            ∙ ap (λ x. post_state es x a.post.marks) (read.1 ∙ ap (λ x. reads_of es x.close) (sym same))
            ∙ ap (λ x. post_state es (reads_of es q.close) x) marks

        by_case : (o : Option Answer) → IsKept rules × FindsBest m es (is_in_force b.post.marks) k b.steps o a.steps → AnswersQuery m q b (ok_or o NoJourney) a.steps
        by_case (Some x) h = (passed ∙ h.0, subst (λ y. NamesJourney m es (is_in_force b.post.marks) y b.steps x a.steps) (sym same) h.1)
        by_case None h = (h.1.1, inr (passed ∙ h.0, refl, subst (NothingFits es (is_in_force b.post.marks)) (sym same) h.1.0))
