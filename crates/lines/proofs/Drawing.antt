-- Drawing a least departure from the queue of the next ones.
use Rattle.std.proofs.Common.{◌≡◌, ℕ, zero, suc, ◌+◌, ◌-◌, ◌<◌, ◌≤◌, Bool, true, false, cond, ◌&&◌, eqb, List, [], ◌∷◌, ◌++◌, length, get_or, take, set, Some, None, sum_by, Option, Result, sym, refl, ap, ◌∙◌, subst, ⊎_elim, arith}
use Rattle.std.proofs.lemmas.List.{length-take-le, take_more}
use Rattle.std.proofs.lemmas.List.Sorted.{sum_by-IsPermutation}
use Rattle.std.proofs.lemmas.List.Sums.{sum_by-cons, sum_by_push}
use Rattle.std.proofs.lemmas.Bool.{cases_lt, ne_eqb}
use Rattle.std.proofs.lemmas.Bool.Decides.{nat_tests}
use Rattle.std.specs.Option.{option_to_list}
use Rattle.std.specs.List.{AllByRecursion}
use Rattle.faults.specs.declared.Fault.{Fault}
use Rattle.records.specs.Limits.{most_lines}
use Rattle.queue.specs.Order.{IsHeapOrdered}
use Rattle.queue.specs.Queue.{HoldsNone, Putting, Takes, elements}
use Rattle.queue.proofs.Runs.{empty_holds_none}
use Rattle.queue.proofs.Sorts.{put_accepted}
use Rattle.lines.specs.declared.cursor.Cursor.{Cursor}
use Rattle.lines.specs.declared.departure.Departure.{Departure}
use Rattle.lines.specs.Departures.{before, departure_at, gather, run_from}
use Rattle.lines.specs.Merges.{QueuesNext, next_departures, departures_left_of, departures_left, next_of, no_cursor, next_cursor}
use Rattle.lines.proofs.Gathers.{gather_cons, gather_none, gather_push, gather-set, gather_zero}

-- the queue, by its sums
pub queued : (slots : List Departure) (used : ℕ) (x : Departure) (answer : Result (Unit {0}) Fault) (slots' : List Departure) (used' : ℕ)
    → used < length slots → Putting before slots used x answer slots' used' → QueuesNext slots used (Some x) slots' used'
queued slots used x answer slots' used' room h =
    let a = put_accepted before slots used x slots' used' answer room h in
    record {
      bag = λ f. omega (arith, sum_by-IsPermutation f (elements slots used ++ x ∷ []) (elements slots' used') a.bag, sum_by_push f (elements slots used) x);
      heaped = a.heaped;
      long = a.long;
      count = omega (arith, a.count);
    }

-- a queue that holds the next departures of the lines with the cursors cs
pub record Filled (cs : List Cursor) (slots : List Departure) (used : ℕ) : Type 0 where
  pub bag : (f : Departure → ℕ) → sum_by f (elements slots used) ≡ sum_by f (next_departures cs)
  pub heaped : IsHeapOrdered before (elements slots used)
  pub long : length slots ≡ most_lines
  pub count : used ≤ length cs

pub filled_more : (cs : List Cursor) (i : ℕ) (slots : List Departure) (used : ℕ) (slots' : List Departure) (used' : ℕ) → i < length cs
    → Filled (take i cs) slots used → QueuesNext slots used (next_of i (get_or cs i no_cursor)) slots' used' → Filled (take (i + 1) cs) slots' used'
filled_more cs i slots used slots' used' h l q =
    let n = length-take-le i cs (omega arith) in
    let n' = length-take-le (i + 1) cs (omega arith) in
    record {
      bag = λ f.
          let more = ap (λ l. sum_by f (next_departures l)) (take_more cs i no_cursor h) in
          let push = gather_push (λ j c. option_to_list (next_of j c)) f (take i cs) 0 i (get_or cs i no_cursor) (omega arith) in
          omega (arith, q.bag f, l.bag f);
      heaped = q.heaped l.heaped;
      long = q.long ∙ l.long;
      count = omega (arith, q.count, l.count);
    }

-- a cursor with no next departure has none left
none_from_next : (i m v n : ℕ) → sum_by (λ _. 1) (option_to_list (cond (eqb n 0) None (Some (departure_at m i)))) ≡ 0 → run_from m v i n ≡ []
none_from_next i m v zero h = refl
none_from_next i m v (suc n) h = let e = ne_eqb (suc n) 0 (omega arith) in let h' = rw e at h in absurd (omega arith)

-- a cursor with one: what is left begins with it
pub next_parts : (i m v n : ℕ) (x : Departure) → cond (eqb n 0) None (Some (departure_at m i)) ≡ Some x
    → (0 < n) × (x.line ≡ i) × (run_from m v i n ≡ x ∷ run_from (m + v) v i (n - 1))
next_parts i m v zero x h = let z : ◌≡◌ {A = ℕ} 0 1 = cc in absurd (omega arith)
next_parts i m v (suc n) x h =
    let e = ne_eqb (suc n) 0 (omega arith) in
    let h' = rw e at h in
    let is : departure_at m i ≡ x = cc in
    let e' : suc n - 1 ≡ n = omega arith in
    (omega arith, ap (λ y. y.line) (sym is), rw e' (ap (λ y. y ∷ run_from (m + v) v i n) is))

pub false_at_zero : (b : Bool) → ◌≡◌ {A = ℕ} (cond b 1 0) 0 → b ≡ false
false_at_zero true h = absurd (omega arith)
false_at_zero false h = refl

pub departure_eq : (x y : Departure) → x.minute ≡ y.minute → x.line ≡ y.line → x ≡ y
departure_eq x y e e' = ap (λ m. departure_at m x.line) e ∙ ap (departure_at y.minute) e'

-- how often x stands in a list
abbrev same : Departure → Departure → ℕ
same x y = cond (eqb x.minute y.minute && eqb x.line y.line) 1 0

same_self : (x : Departure) → same x x ≡ 1
same_self x = grind (arith, nat_tests)

option_found : (x : Departure) (o : Option Departure) → 0 < sum_by (same x) (option_to_list o) → o ≡ Some x
option_found x None h = absurd (omega arith)
option_found x (Some y) h =
    let e : x.minute ≡ y.minute = grind (arith, nat_tests) in let e' : x.line ≡ y.line = grind (arith, nat_tests) in ap Some (sym (departure_eq x y e e'))

head_found : (x : Departure) (cs : List Cursor) (i : ℕ) → 0 < sum_by (same x) (gather (λ j c. option_to_list (next_of j c)) i cs)
    → (k : ℕ) × (i + k ≡ x.line) × (k < length cs) × (next_of x.line (get_or cs k no_cursor) ≡ Some x)
head_found x [] i h = absurd (omega arith)
head_found x (c ∷ cs) i h =
    let s = gather_cons (λ j c. option_to_list (next_of j c)) (same x) i c cs in
    ⊎_elim
    (λ p.
    let o = option_found x (next_of i c) p in
    let e : x.line ≡ i = (next_parts i c.minute c.interval c.left x o).1 in
    (zero, omega arith, omega arith, subst (λ j. next_of j c ≡ Some x) (sym e) o))
    (λ z. let r = head_found x cs (i + 1) (omega arith) in (suc r.0, omega (arith, r.1), omega (arith, r.2), r.3))
    (cases_lt 0 (sum_by (same x) (option_to_list (next_of i c))))

-- how many of a list go before x
abbrev pub sooner : Departure → Departure → ℕ
sooner x y = cond (before y x) 1 0

pub none_sooner : (x : Departure) (ys : List Departure) → AllByRecursion (λ y. before y x ≡ false) ys → sum_by (sooner x) ys ≡ 0
none_sooner x [] h = refl
none_sooner x (y ∷ ys) h = sum_by-cons (sooner x) y ys ∙ omega (arith, ap {B = ℕ} (λ b. cond b 1 0) h.0, none_sooner x ys h.1)

pub all_from_none : (x : Departure) (ys : List Departure) → sum_by (sooner x) ys ≡ 0 → AllByRecursion (λ y. before y x ≡ false) ys
all_from_none x [] h = tt
all_from_none x (y ∷ ys) h =
    let s = sum_by-cons (sooner x) y ys in (false_at_zero (before y x) (omega arith), all_from_none x ys (omega arith))

later_too : (x : Departure) (m v i : ℕ) → before (departure_at m i) x ≡ false → before (departure_at (m + v) i) x ≡ false
later_too x m v i h = grind (arith, nat_tests)

run_late : (x : Departure) (m v i n : ℕ) → before (departure_at m i) x ≡ false → sum_by (sooner x) (run_from m v i n) ≡ 0
run_late x m v i zero h = refl
run_late x m v i (suc n) h =
    sum_by-cons (sooner x) (departure_at m i) (run_from (m + v) v i n)
    ∙ omega (arith, ap {B = ℕ} (λ b. cond b 1 0) h, run_late x (m + v) v i n (later_too x m v i h))

left_late : (x : Departure) (i m v n : ℕ) → sum_by (sooner x) (option_to_list (cond (eqb n 0) None (Some (departure_at m i)))) ≡ 0 → sum_by (sooner x) (run_from m v i n) ≡ 0
left_late x i m v zero h = refl
left_late x i m v (suc n) h =
    let e = ne_eqb (suc n) 0 (omega arith) in
    let h' = rw e at h in
    run_late x m v i (suc n) (false_at_zero (before (departure_at m i) x) (omega arith))

module _ (cs : List Cursor) (slots : List Departure) (used : ℕ) (bag : (f : Departure → ℕ) → sum_by f (elements slots used) ≡ sum_by f (next_departures cs)) where
  pub none_left : (slots' : List Departure) (used' : ℕ) → HoldsNone slots used slots' used' → departures_left cs ≡ []
  none_left slots' used' e =
      gather_none (λ j c. option_to_list (next_of j c)) (λ _. 1) departures_left_of (λ i c. none_from_next i c.minute c.interval c.left) 0 cs
      (sym (bag (λ _. 1)) ∙ ap (sum_by (λ _. 1)) (empty_holds_none slots used slots' used' e))

  module _ (x : Departure) (slots₁ : List Departure) (used₁ : ℕ) (t : Takes before slots used x slots₁ used₁) where
    abbrev c : Cursor
    c = get_or cs x.line no_cursor

    taken_sum : (f : Departure → ℕ) → f x + sum_by f (elements slots₁ used₁) ≡ sum_by f (next_departures cs)
    taken_sum f = sym (sum_by-cons f x (elements slots₁ used₁)) ∙ sum_by-IsPermutation f (elements slots used) (x ∷ elements slots₁ used₁) t.bag ∙ bag f

    found : (x.line < length cs) × (next_of x.line c ≡ Some x)
    found =
        let r = head_found x cs 0 (omega (arith, taken_sum (same x), same_self x)) in
        let e : r.0 ≡ x.line = omega (arith, r.1) in
        (omega (arith, r.2), subst (λ k. next_of x.line (get_or cs k no_cursor) ≡ Some x) e r.3)

    pub known_line : x.line < length cs
    known_line = found.0

    pub ride_left : 0 < c.left
    ride_left = (next_parts x.line c.minute c.interval c.left x found.1).0

    pub least_left : IsHeapOrdered before (elements slots used) → AllByRecursion (λ y. before y x ≡ false) (departures_left cs)
    least_left h =
        all_from_none x (departures_left cs)
        (gather_zero (λ j c. option_to_list (next_of j c)) (sooner x) departures_left_of (λ i c. left_late x i c.minute c.interval c.left) 0 cs
        (sym (bag (sooner x)) ∙ none_sooner x (elements slots used) (t.least h).none_before))

    -- its line's next departure is put in, where there is one
    module _ (cs' : List Cursor) (after : cs' ≡ set cs x.line (next_cursor c)) where
      pub drawn_bag : (f : Departure → ℕ) → sum_by f (departures_left cs) ≡ f x + sum_by f (departures_left cs')
      drawn_bag f =
          let s = gather-set departures_left_of f cs 0 x.line x.line (next_cursor c) no_cursor (omega arith) found.0 in
          let e = ap (λ l. sum_by f (departures_left l)) after in
          let p = ap (sum_by f) (next_parts x.line c.minute c.interval c.left x found.1).2 in
          let r = sum_by-cons f x (departures_left_of x.line (next_cursor c)) in
          omega arith

      pub queue_bag : (next : Option Departure) (slots₂ : List Departure) (used₂ : ℕ) → next ≡ next_of x.line (next_cursor c)
          → QueuesNext slots₁ used₁ next slots₂ used₂ → (f : Departure → ℕ) → sum_by f (elements slots₂ used₂) ≡ sum_by f (next_departures cs')
      queue_bag next slots₂ used₂ n q f =
          let s = gather-set (λ j d. option_to_list (next_of j d)) f cs 0 x.line x.line (next_cursor c) no_cursor (omega arith) found.0 in
          let e = ap (λ l. sum_by f (next_departures l)) after in
          let o = ap (λ d. sum_by f (option_to_list d)) n in
          let p = ap (λ d. sum_by f (option_to_list d)) found.1 in
          let r = sum_by-cons f x [] in
          omega (arith, taken_sum f, q.bag f)
