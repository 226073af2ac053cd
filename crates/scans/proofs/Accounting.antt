-- How board and queue go on accounting for the log.
use Rattle.std.proofs.Common.{◌≡◌, ℕ, zero, suc, ◌<◌, ◌≤◌, Bool, true, false, cond, ◌||◌, ltb, ◌⊎◌, List, [], ◌∷◌, ◌++◌, length, get_or, set, Some, None, Option, sym, refl, ap, ◌∙◌, subst, inl, inr, ⊎_elim, arith}
use Rattle.std.proofs.ByRecursion.{all-has, All-weaker, has_append_left, has_push, has_push_cases, has_shuffled}
use Rattle.std.proofs.lemmas.List.{get_or-set_other, get_or-set_same, length-set}
use Rattle.std.proofs.lemmas.List.Sorted.{IsPermutation-sym}
use Rattle.std.proofs.lemmas.Bool.{both_ways, cases_eq, cases_lt, lt-ltb}
use Rattle.std.specs.List.{ContainsAt}
use Rattle.std.proofs.lemmas.Option.{none-some, same_Some}
use Rattle.records.specs.Limits.{most_stops}
use Rattle.measures.specs.Measures.{Laws, Ops}
use Rattle.journeys.specs.Journeys.{one_if}
use Rattle.queue.specs.Order.{IsLeast}
use Rattle.queue.specs.Queue.{Adds, IsNext, Takes, Taking, elements}
use Rattle.scans.specs.declared.arrival.Arrival.{Arrival}
use Rattle.scans.specs.declared.board.Incumbent.{Incumbent}
use Rattle.scans.specs.declared.entry.Entry.{Entry}
use Rattle.scans.specs.Accounts.{Accounts, TakesDue, AllLater, IsDominated, IsQueued, IsIncumbentAt}
use Rattle.scans.specs.Arrivals.{arriving, sooner}
use Rattle.scans.specs.Boards.{board_after, board_with, entry_for, ready_of, slot_of, incumbent_at, winner}
use Rattle.scans.specs.Tables.{Contents, arrivals_in}

-- what is not sooner is not earlier
pub not_earlier : (x y : Arrival) → sooner x y ≡ false → y.minute ≤ x.minute
not_earlier x y h =
    ⊎_elim (λ l. absurd (both_ways _ h (first_true x.minute y.minute _ l))) (λ l. l) (cases_lt x.minute y.minute)
  where
    first_true : (a b : ℕ) (r : Bool) → a < b → (ltb a b || r) ≡ true
    first_true a b r l = rw (lt-ltb a b l)

pub least_later : (minute : ℕ) (x : Arrival) (xs : List Arrival) → minute < x.minute → IsLeast sooner x xs → AllLater minute xs
least_later minute x xs h l =
    All-weaker (λ y. sooner y x ≡ false) (λ y. minute < y.minute) (λ y n. omega (arith, not_earlier y x n)) xs l.none_before

pub least_earlier : (minute : ℕ) (x y : Arrival) (xs : List Arrival) → y.minute ≤ minute → IsLeast sooner x xs → ContainsAt xs y → x.minute ≤ minute
least_earlier minute x y xs h l i = omega (arith, not_earlier y x (all-has (λ z. sooner z x ≡ false) xs y l.none_before i))

pub due_taken : (minute : ℕ) (queue : List Arrival) (used : ℕ) (x : Arrival) → IsNext sooner queue used x → x.minute ≤ minute → (r : Option Arrival) (queue' : List Arrival) (used' : ℕ) → Taking sooner queue used r queue' used' → TakesDue minute queue used r queue' used'
due_taken minute queue used x s h (Some a) queue' used' t =
    (t, λ o. least_earlier minute a x (elements queue used) h (t.least o) (s.least o).among)
due_taken minute queue used x s h None queue' used' t = absurd (omega (arith, s.some, t.none))

one_if_small : (b : Bool) → one_if b ≤ 1
one_if_small true = omega arith
one_if_small false = omega arith

-- one element more at the front
contains_front : {X : Type 0} (x : X) (xs : List X) → ContainsAt (x ∷ xs) x
contains_front x xs = (0, omega arith, λ d. refl)

contains_behind : {X : Type 0} (x y : X) (xs : List X) → ContainsAt xs y → ContainsAt (x ∷ xs) y
contains_behind x y xs h = (suc h.0, omega (arith, h.1), h.2)

contains_cases : {X : Type 0} (x y : X) (xs : List X) → ContainsAt (x ∷ xs) y → (x ≡ y) ⊎ ContainsAt xs y
contains_cases x y xs (zero, l, e) = inl (e y)
contains_cases x y xs (suc k, l, e) = inr (k, omega arith, e)

-- a slot tells stop and call state
pub slot_stop : (s t : ℕ) (b c : Bool) → slot_of s b ≡ slot_of t c → (s ≡ t) × (b ≡ c)
slot_stop s t true true h = (omega arith, refl)
slot_stop s t false false h = (omega arith, refl)
slot_stop s t true false h = absurd (omega arith)
slot_stop s t false true h = absurd (omega arith)

module _ {L : Type 0} (m : Ops L) (laws : Laws m) where
  pub no_worse_itself : (l : L) → m.no_worse l l ≡ true
  no_worse_itself l = ⊎_elim (λ h. h) (λ h. h) (laws.total l l)

  -- the winner is no worse than who comes, and than who stood there
  winner_comes : (s : Option (Incumbent L)) (x : Incumbent L) → m.no_worse (winner m s x).label x.label ≡ true
  winner_comes None x = no_worse_itself x.label
  winner_comes (Some y) x = by_test (m.no_worse y.label x.label) refl
    where
      by_test : (b : Bool) → m.no_worse y.label x.label ≡ b → m.no_worse (cond b y x).label x.label ≡ true
      by_test true h = h
      by_test false h = no_worse_itself x.label

  winner-stands : (y x : Incumbent L) → m.no_worse (winner m (Some y) x).label y.label ≡ true
  winner-stands y x = by_test (m.no_worse y.label x.label) refl
    where
      by_test : (b : Bool) → m.no_worse y.label x.label ≡ b → m.no_worse (cond b y x).label y.label ≡ true
      by_test true h = no_worse_itself y.label
      by_test false h = ⊎_elim (λ k. absurd (both_ways _ h k)) (λ k. k) (laws.total y.label x.label)

  winner_either : (s : Option (Incumbent L)) (x : Incumbent L) → (winner m s x ≡ x) ⊎ (s ≡ Some (winner m s x))
  winner_either None x = inl refl
  winner_either (Some y) x = by_test (m.no_worse y.label x.label)
    where
      by_test : (b : Bool) → (cond b y x ≡ x) ⊎ (Some y ≡ Some (cond b y x))
      by_test true = inr refl
      by_test false = inl refl

module _ {L : Type 0} (m : Ops L) (laws : Laws m) (tables : Contents L) (k t minute : ℕ) (accounts : Accounts m tables k t) (later : t ≤ minute) where
  standing_later : (s : ℕ) (c : Bool) (x : Incumbent L) → IsIncumbentAt m tables.log k t s c x → IsIncumbentAt m tables.log k minute s c x
  standing_later s c x h = (h.0, (h.1.0, h.1.1, h.1.2, h.1.3, omega (arith, h.1.4)))

  pub accounts_later : Accounts m tables k minute
  accounts_later =
      record {
        heaped = accounts.heaped;
        wide = accounts.wide;
        near = accounts.near;
        queued = accounts.queued;
        incumbent = λ s c x l h. standing_later s c x (accounts.incumbent s c x l h);
        covered = λ j c e h. ⊎_elim (λ i. inl i) (λ o. inr (omega (arith, o.0), o.1)) (accounts.covered j c e h);
      }

-- one due arrival taken from the queue and brought to the board
module _ {L : Type 0} (m : Ops L) (laws : Laws m) (tables : Contents L) (k t minute : ℕ) (accounts : Accounts m tables k t) (later : t ≤ minute) (a : Arrival) (queue' : List Arrival) (used' : ℕ) (taken : Takes sooner tables.queue tables.used a queue' used') (due : a.minute ≤ minute) where
  was_held : (b : Arrival) → ContainsAt (elements queue' used') b → ContainsAt (arrivals_in tables) b
  was_held b h = has_shuffled (a ∷ elements queue' used') (arrivals_in tables) b (IsPermutation-sym _ _ taken.bag) (contains_behind a b (elements queue' used') h)

  its_entry : IsQueued m tables.log k a
  its_entry = accounts.queued a (has_shuffled (a ∷ elements queue' used') (arrivals_in tables) a (IsPermutation-sym _ _ taken.bag) (contains_front a (elements queue' used')))

module _ {L : Type 0} (m : Ops L) (laws : Laws m) (tables : Contents L) (k t minute : ℕ) (accounts : Accounts m tables k t) (later : t ≤ minute) (a : Arrival) (queue' : List Arrival) (used' : ℕ) (taken : Takes sooner tables.queue tables.used a queue' used') (due : a.minute ≤ minute) (entry : Entry L) (logged_entry : entry_for tables.log a.stage.event a.stage.called ≡ Some entry) (ends : ready_of entry ≡ a.minute) (before : a.stage.event < k) where
  abbrev at : ℕ
  at = slot_of entry.stop a.stage.called

  abbrev comes : Incumbent L
  comes = record { label = entry.label; event = a.stage.event }

  abbrev won : Incumbent L
  won = winner m (incumbent_at tables.board entry.stop a.stage.called) comes

  abbrev board' : List (Option (Incumbent L))
  board' = set tables.board at (Some won)

  at_within : at < length tables.board
  at_within = omega (arith, (accounts.near a.stage.event a.stage.called entry logged_entry).1, accounts.wide, one_if_small a.stage.called)

  here : (s : ℕ) (c : Bool) → slot_of s c ≡ at → incumbent_at board' s c ≡ Some won
  here s c e = ap (λ i. get_or board' i None) e ∙ get_or-set_same tables.board at (Some won) None at_within

  elsewhere : (s : ℕ) (c : Bool) → (slot_of s c ≡ at → ⊥) → incumbent_at board' s c ≡ incumbent_at tables.board s c
  elsewhere s c n = get_or-set_other tables.board at (slot_of s c) (Some won) None n

  winner_there : IsIncumbentAt m tables.log k minute entry.stop a.stage.called won
  winner_there =
      ⊎_elim
      (λ e. subst (IsIncumbentAt m tables.log k minute entry.stop a.stage.called) (sym e) (before, (entry, logged_entry, refl, refl, omega arith)))
      (λ e.
      standing_later m laws tables k t minute accounts later entry.stop a.stage.called won
      (accounts.incumbent entry.stop a.stage.called won (accounts.near a.stage.event a.stage.called entry logged_entry).1 e))
      (winner_either m laws (incumbent_at tables.board entry.stop a.stage.called) comes)

  -- what stood at a slot is stood for by one that is no worse
  still_over : (j : ℕ) (e : Entry L) (c : Bool) → IsDominated m tables.log tables.board t j e c → IsDominated m tables.log board' minute j e c
  still_over j e c o =
      let x = o.1.0 in (
        omega (arith, o.0),
        ⊎_elim
            (λ i.
            let z = slot_stop e.stop entry.stop c a.stage.called i in
            let s : incumbent_at tables.board entry.stop a.stage.called ≡ Some x = ap (λ j. get_or tables.board j None) (sym i) ∙ o.1.1 in
            let b : m.no_worse won.label x.label ≡ true = subst (λ y. m.no_worse (winner m y comes).label x.label ≡ true) (sym s) (winner-stands m laws x comes) in
            (won, here e.stop c i, laws.transitive won.label x.label e.label b o.1.2))
            (λ n. (x, elsewhere e.stop c n ∙ o.1.1, o.1.2))
            (cases_eq (slot_of e.stop c) at),
      )

  -- the arrival's own entry is dominated now
  own_over : (e : Entry L) (j : ℕ) (c : Bool) → entry_for tables.log j c ≡ Some e → a ≡ arriving (ready_of e) (record { event = j; called = c }) → IsDominated m tables.log board' minute j e c
  own_over e j c h i =
      let q : entry_for tables.log a.stage.event a.stage.called ≡ Some e = ap (λ x. entry_for tables.log x.stage.event x.stage.called) i ∙ h in
      let same : entry ≡ e = same_Some _ _ (sym logged_entry ∙ q) in
      let c' : a.stage.called ≡ c = ap (λ x. x.stage.called) i in (
        omega (arith, ap (λ x. x.minute) i),
        (
          won,
          here e.stop c (ap (λ x. slot_of x.stop c) (sym same) ∙ ap (slot_of entry.stop) (sym c')),
          subst (λ x. m.no_worse won.label x.label ≡ true) same (winner_comes m laws (incumbent_at tables.board entry.stop a.stage.called) comes),
        ),
      )

  accounts_brought : Accounts m (record tables { board = board'; queue = queue'; used = used' }) k minute
  accounts_brought =
      record {
        heaped = taken.heaped accounts.heaped;
        wide = omega (arith, length-set tables.board at (Some won), accounts.wide);
        near = accounts.near;
        queued = λ b h. accounts.queued b (was_held m laws tables k t minute accounts later a queue' used' taken due b h);
        incumbent =
            λ s c x l h.
            ⊎_elim
            (λ i.
            let z = slot_stop s entry.stop c a.stage.called i in
            let y : won ≡ x = same_Some _ _ (sym (here s c i) ∙ h) in
            subst (IsIncumbentAt m tables.log k minute s c) y
            (subst (λ v. IsIncumbentAt m tables.log k minute v c won) (sym z.0) (subst (λ v. IsIncumbentAt m tables.log k minute entry.stop v won) (sym z.1) winner_there)))
            (λ n. standing_later m laws tables k t minute accounts later s c x (accounts.incumbent s c x l (sym (elsewhere s c n) ∙ h)))
            (cases_eq (slot_of s c) at);
        covered =
            λ j c e h.
            ⊎_elim
            (λ i.
            ⊎_elim (λ z. inr (own_over e j c h z)) (λ b. inl b)
            (contains_cases a _ (elements queue' used') (has_shuffled (arrivals_in tables) (a ∷ elements queue' used') _ taken.bag i)))
            (λ o. inr (still_over j e c o))
            (accounts.covered j c e h);
      }

  brought_accounts : Accounts m (record tables { board = board_after m tables.log tables.board a; queue = queue'; used = used' }) k minute
  brought_accounts = subst (λ b. Accounts m (record tables { board = b; queue = queue'; used = used' }) k minute) (sym (ap (board_with m tables.board a) logged_entry)) accounts_brought

module _ {L : Type 0} (m : Ops L) (laws : Laws m) (tables : Contents L) (k t minute : ℕ) (accounts : Accounts m tables k t) (later : t ≤ minute) (a : Arrival) (queue' : List Arrival) (used' : ℕ) (taken : Takes sooner tables.queue tables.used a queue' used') (due : a.minute ≤ minute) where
  pub accounts_drained : (after : Contents L) → after ≡ record tables { board = board_after m tables.log tables.board a; queue = queue'; used = used' } → Accounts m after k minute
  accounts_drained after is =
      let i = its_entry m laws tables k t minute accounts later a queue' used' taken due in
      subst (λ x. Accounts m x k minute) (sym is)
      (brought_accounts m laws tables k t minute accounts later a queue' used' taken due i.1.0 i.1.1 i.1.2 i.0)

-- where nothing is due the tables stay as they are
pub accounts_still : {L : Type 0} (m : Ops L) (tables : Contents L) (k minute : ℕ) (queue' : List Arrival) (used' : ℕ) → TakesDue minute tables.queue tables.used None queue' used' → Accounts m tables k minute → Accounts m (record tables { queue = queue'; used = used' }) k minute × AllLater minute (elements queue' used')
accounts_still m tables k minute queue' used' (queue, used, late) accounts =
    let same : record tables { queue = queue'; used = used' } ≡ tables =
    ap (λ x. record tables { queue = x; used = used' }) queue ∙ ap (λ n. record tables { used = n }) used in
    subst (λ x. Accounts m x k minute × AllLater minute (arrivals_in x)) (sym same) (accounts, late accounts.heaped)

-- an entry is written for an event that had none, and its arrival is awaited
module _ {L : Type 0} (m : Ops L) (tables : Contents L) (k t : ℕ) (accounts : Accounts m tables k t) (i : ℕ) (c : Bool) (e : Entry L) (queue' : List Arrival) (used' : ℕ) (near : i < k) (stop : e.stop < most_stops) (within : slot_of i c < length tables.log) (none : entry_for tables.log i c ≡ None) (added : Adds sooner tables.queue tables.used (arriving (ready_of e) (record { event = i; called = c })) queue' used') where
  abbrev log' : List (Option (Entry L))
  log' = set tables.log (slot_of i c) (Some e)

  abbrev arrival : Arrival
  arrival = arriving (ready_of e) (record { event = i; called = c })

  written : (j : ℕ) (b : Bool) → slot_of j b ≡ slot_of i c → entry_for log' j b ≡ Some e
  written j b h = ap (λ x. get_or log' x None) h ∙ get_or-set_same tables.log (slot_of i c) (Some e) None within

  other : (j : ℕ) (b : Bool) → (slot_of j b ≡ slot_of i c → ⊥) → entry_for log' j b ≡ entry_for tables.log j b
  other j b n = get_or-set_other tables.log (slot_of i c) (slot_of j b) (Some e) None n

  -- an entry that was there is there still
  kept : (j : ℕ) (b : Bool) (x : Entry L) → entry_for tables.log j b ≡ Some x → entry_for log' j b ≡ Some x
  kept j b x h =
      ⊎_elim
      (λ s. absurd (none-some _ (sym (sym h ∙ ap (λ z. get_or tables.log z None) s ∙ none))))
      (λ n. other j b n ∙ h)
      (cases_eq (slot_of j b) (slot_of i c))

  -- an entry that is there now was there, or is the new one
  whence : (j : ℕ) (b : Bool) (x : Entry L) → entry_for log' j b ≡ Some x → ((j ≡ i) × (b ≡ c) × (e ≡ x)) ⊎ (entry_for tables.log j b ≡ Some x)
  whence j b x h =
      ⊎_elim
      (λ s. let z = slot_stop j i b c s in inl (z.0, z.1, same_Some _ _ (sym (written j b s) ∙ h)))
      (λ n. inr (sym (other j b n) ∙ h))
      (cases_eq (slot_of j b) (slot_of i c))

  pub accounts_noted : Accounts m (record tables { log = log'; queue = queue'; used = used' }) k t
  accounts_noted =
      record {
        heaped = added.heaped accounts.heaped;
        wide = accounts.wide;
        near =
            λ j b x h.
            ⊎_elim (λ z. (subst (λ y. y < k) (sym z.0) near, subst (λ y. y.stop < most_stops) z.2 stop)) (accounts.near j b x) (whence j b x h);
        queued =
            λ a h.
            ⊎_elim
            (λ o. let q = accounts.queued a o in (q.0, (q.1.0, kept a.stage.event a.stage.called q.1.0 q.1.1, q.1.2)))
            (λ z. subst (IsQueued m log' k) z (near, (e, written i c refl, refl)))
            (has_push_cases (arrivals_in tables) arrival a (has_shuffled (elements queue' used') (arrivals_in tables ++ arrival ∷ []) a (IsPermutation-sym _ _ added.bag) h));
        incumbent =
            λ s b x l h. let o = accounts.incumbent s b x l h in (o.0, (o.1.0, kept x.event b o.1.0 o.1.1, o.1.2, o.1.3, o.1.4));
        covered =
            λ j b x h.
            ⊎_elim
            (λ z.
            inl
            (subst (ContainsAt (elements queue' used')) (same_arrival x j b z)
            (has_shuffled (arrivals_in tables ++ arrival ∷ []) (elements queue' used') arrival added.bag (has_push (arrivals_in tables) arrival))))
            (λ o.
            ⊎_elim
            (λ q. inl (has_shuffled (arrivals_in tables ++ arrival ∷ []) (elements queue' used') _ added.bag (has_append_left (arrivals_in tables) (arrival ∷ []) _ q)))
            (λ r. inr r)
            (accounts.covered j b x o))
            (whence j b x h);
      }
    where
      same_arrival : (x : Entry L) (j : ℕ) (b : Bool) → (j ≡ i) × (b ≡ c) × (e ≡ x) → arrival ≡ arriving (ready_of x) (record { event = j; called = b })
      same_arrival x j b z = ap (made (ready_of e) i) (sym z.1) ∙ ap (λ n. made (ready_of e) n b) (sym z.0) ∙ ap (λ y. made (ready_of y) j b) z.2
        where
          made : ℕ → ℕ → Bool → Arrival
          made a d f = record { minute = a; stage = record { event = d; called = f } }
