-- A call that performs continues every history.
use Rattle.std.proofs.Common.{◌≡◌, ℕ, zero, suc, ◌+◌, ◌-◌, ◌<◌, ◌≤◌, Bool, true, false, cond, List, [], ◌∷◌, map, length, get_or, set, replicate, Some, None, Ok, Option, count_by, sym, refl, ap, ◌∙◌, subst, ⊎_elim, add-zero, arith}
use mathlib.Core.Path.{fun_ext}
use Rattle.std.proofs.lemmas.List.FromFn.{fill_by_all, sum_by-map-range_with_len_more}
use Rattle.std.proofs.lemmas.List.{get_or_past, get_or-replicate, get_or-set_other, get_or-set_same, length-replicate, length-set}
use Rattle.std.proofs.lemmas.List.Sums.{sum_by-cons}
use Rattle.std.proofs.lemmas.Bool.{both_ways, cases_Bool, cases_eq, cases_lt, eq-eqb, ltb-true, ne_eqb}
use Rattle.std.proofs.lemmas.Option.{same_Some}
use Rattle.std.specs.List.{range_with_len}
use Rattle.faults.specs.Rules.{first_fault, ruling}
use Rattle.faults.proofs.Rules.{kept_from_ok, tests_true}
use Rattle.records.specs.declared.event.Event.{Event}
use Rattle.records.specs.Limits.{most_events}
use Rattle.timetable_post.specs.Calls.{Call, IsRight, Notice, Withdrawals, notice_call, notice_in, notice_rules, out_after}
use Rattle.timetable_post.specs.Histories.{Continues, Explains, HistoriesAreAnsweredRightly, IsAnsweredRightly, is_out, is_withdrawal, latest, latest_after, put_up, then, withdrawals_by}
use Rattle.timetable_post.specs.Posts.{Performs, PostState, marks_after, new_post, withdrawals_in}

-- an accepted notice is about an event
accepted_known : (n : ℕ) (out : Bool) (k : Notice) (e : ℕ) (u : Unit {0}) → Ok u ≡ ruling (notice_rules n out k e) tt → e < n
accepted_known n out k e u h =
    ltb-true e n (tests_true (notice_rules n out k e) (kept_from_ok (first_fault (notice_rules n out k e)) tt u (sym h))).0

notice_known : (es : List Event) (w : Withdrawals) (c : Call) → IsRight es w c → (e : ℕ) (k : Notice) → notice_in c ≡ Some (e, k) → e < length es
notice_known es w (notice_call j d (Ok u)) right e k is =
    let same : d ≡ e = ap (λ x. x.0) (same_Some _ _ is) in
    subst (λ x. x < length es) same (accepted_known (length es) (w.is_out d) j d u right)
notice_known es w _ right e k is = cc

-- the latest notice about an event, where a notice came
latest_here : (e n : ℕ) (j : Notice) (k : Option Notice) → e ≡ n → latest_after (Some (e, j)) n k ≡ Some j
latest_here e n j k s = ap (λ b. cond b (Some j) k) (eq-eqb e n s)

latest_other : (e n : ℕ) (j : Notice) (k : Option Notice) → (e ≡ n → ⊥) → latest_after (Some (e, j)) n k ≡ k
latest_other e n j k s = ap (λ b. cond b (Some j) k) (ne_eqb e n s)

-- an event that is out of force is one of the source's
known_by : (n m : ℕ) (k : Option Notice) (o : Option (ℕ × Notice)) → ((e : ℕ) (j : Notice) → o ≡ Some (e, j) → e < m) → (is_withdrawal k ≡ true → n < m) → is_withdrawal (latest_after o n k) ≡ true → n < m
known_by n m k None given before out = before out
known_by n m k (Some (e, j)) given before out =
    ⊎_elim (λ s. subst (λ x. x < m) s (given e j refl)) (λ s. before (ap is_withdrawal (sym (latest_other e n j k s)) ∙ out)) (cases_eq e n)

pub out_known : (es : List Event) (h : List Call) → IsAnsweredRightly es h → (n : ℕ) → is_out h n ≡ true → n < length es
out_known es [] d n o = absurd (both_ways _ refl o)
out_known es (c ∷ h) d n o =
    known_by n (length es) (latest h n) (notice_in c) (notice_known es (withdrawals_by es h) c d.0) (λ b. out_known es h d.1 n b) o

-- the marks after a notice are those of the history with it
marks_agree_after : (marks : List Bool) (n : ℕ) (k : Option Notice) (o : Option (ℕ × Notice)) → ((e : ℕ) (j : Notice) → o ≡ Some (e, j) → e < length marks) → get_or marks n false ≡ is_withdrawal k → get_or (marks_after o marks) n false ≡ is_withdrawal (latest_after o n k)
marks_agree_after marks n k None given before = before
marks_agree_after marks n k (Some (e, j)) given before =
    ⊎_elim
    (λ s.
    ap (λ x. get_or (set marks e (out_after j)) x false) (sym s)
    ∙ get_or-set_same marks e (out_after j) false (given e j refl)
    ∙ ap is_withdrawal (sym (latest_here e n j k s)))
    (λ s.
    get_or-set_other marks e n (out_after j) false (λ x. s (sym x))
    ∙ before
    ∙ ap is_withdrawal (sym (latest_other e n j k s)))
    (cases_eq e n)

length-marks_after : (o : Option (ℕ × Notice)) (marks : List Bool) → length (marks_after o marks) ≡ length marks
length-marks_after None marks = refl
length-marks_after (Some (e, j)) marks = length-set marks e (out_after j)

-- counting the marks is counting the events that are out of force
count_map : (f : ℕ → Bool) (xs : List ℕ) → count_by (λ b. b) (map f xs) ≡ count_by f xs
count_map f [] = refl
count_map f (x ∷ xs) =
    sum_by-cons (λ b. cond b 1 0) (f x) (map f xs) ∙ ap (λ n. cond (f x) 1 0 + n) (count_map f xs) ∙ sym (sum_by-cons (λ y. cond (f y) 1 0) x xs)

none_beyond : (f : ℕ → Bool) (n k : ℕ) → ((i : ℕ) → n ≤ i → f i ≡ false) → count_by (λ b. b) (map f (range_with_len 0 (n + k))) ≡ count_by (λ b. b) (map f (range_with_len 0 n))
none_beyond f n zero h = ap (λ m. count_by (λ b. b) (map f (range_with_len 0 m))) (add-zero n)
none_beyond f n (suc k) h =
    let here : f (n + k) ≡ false = h (n + k) (omega arith) in
    let one : n + suc k ≡ n + k + 1 = omega arith in
    ap (λ m. count_by (λ b. b) (map f (range_with_len 0 m))) one
    ∙ sum_by-map-range_with_len_more (λ b. cond b 1 0) f 0 (n + k) (n + k) (omega arith)
    ∙ ap (λ b. count_by (λ b. b) (map f (range_with_len 0 (n + k))) + cond b 1 0) here
    ∙ add-zero _
    ∙ none_beyond f n k h

count-outs : (h : List Call) (b : PostState) → length b.events ≤ most_events → Explains h b → count_by (λ m. m) b.marks ≡ (withdrawals_by b.events h).count
count-outs h b few ex =
    let n = length b.events in
    let all : n + (most_events - n) ≡ most_events = omega arith in
    let beyond : (i : ℕ) → n ≤ i → is_out h i ≡ false = λ i l. ⊎_elim (λ o. absurd (omega (arith, out_known b.events h ex.right i o))) (λ o. o) (cases_Bool (is_out h i)) in
    ap (count_by (λ m. m)) (fill_by_all (is_out h) b.marks most_events false ex.long (λ k _. ex.marks k))
    ∙ ap (λ m. count_by (λ x. x) (map (is_out h) (range_with_len 0 m))) (sym all)
    ∙ none_beyond (is_out h) n (most_events - n) beyond
    ∙ count_map (is_out h) (range_with_len 0 n)

-- what is out of force by the marks is so by the history
withdrawals_agree : (h : List Call) (b : PostState) → length b.events ≤ most_events → Explains h b → withdrawals_in b.marks ≡ withdrawals_by b.events h
withdrawals_agree h b few ex =
    let of : (ℕ → Bool) → ℕ → Withdrawals = λ f n. record { is_out = f; count = n } in
    ap (λ f. of f (count_by (λ m. m) b.marks)) (fun_ext ex.marks) ∙ ap (of (is_out h)) (count-outs h b few ex)

-- whatever a call does, every history goes on with it
pub continues : (b : PostState) (c : Call) (a : PostState) → Performs b c a → Continues b c a
continues b c a p h ex =
    let right = subst (λ w. IsRight b.events w c) (withdrawals_agree h b p.post.listed.few ex) p.right in
    let known : (e : ℕ) (j : Notice) → notice_in c ≡ Some (e, j) → e < length b.marks =
    λ e j is. omega (arith, notice_known b.events (withdrawals_by b.events h) c right e j is, p.post.listed.few, ex.long) in
    subst (Explains (c ∷ h)) (sym p.after) (record {
      right = (right, ex.right);
      marks = λ n. marks_agree_after b.marks n (latest h n) (notice_in c) known (ex.marks n);
      long = length-marks_after (notice_in c) b.marks ∙ ex.long;
    })

-- a post that was just put up has no history
pub explains_new : (es : List Event) (p : ℕ) → Explains [] (new_post es p)
explains_new es p =
    record {
      right = tt;
      marks =
          λ n. ⊎_elim (λ l. get_or-replicate most_events n false false l) (λ l. get_or_past (replicate most_events false) n false (omega (arith, length-replicate most_events false))) (cases_lt n most_events);
      long = length-replicate most_events false;
    }

pub histories_right : HistoriesAreAnsweredRightly
histories_right h b (put_up es p) = explains_new es p
histories_right h b (then {h = g} {b = before} run c a performs) = continues before c a performs g (histories_right g before run)
