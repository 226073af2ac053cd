-- From one event to the next.
use Rattle.std.proofs.Common.{◌≡◌, ℕ, ◌+◌, ◌<◌, ◌≤◌, Bool, true, false, List, length, set, Some, None, Option, sym, refl, ap, ◌∙◌, subst, ⊎_elim, arith}
use Rattle.std.proofs.ByRecursion.{All-get_or}
use Rattle.std.proofs.lemmas.List.{get_or-set_other, get_or-set_same, length-set}
use Rattle.std.proofs.lemmas.Bool.{both_ways, cases_eq, cases_lt}
use Rattle.std.specs.Option.{option_map}
use Rattle.std.proofs.lemmas.Option.{none-some, same_Some}
use Rattle.records.specs.declared.event.Event.{Event}
use Rattle.records.specs.declared.event.Event.TheVariants.{Opening, Ride}
use Rattle.records.specs.Events.{IsTimetable, IsWithinLimits, time_of, opening_event}
use Rattle.records.specs.Limits.{most_stops}
use Rattle.measures.specs.Measures.{Laws, Ops}
use Rattle.journeys.specs.declared.query.Query.{Query}
use Rattle.journeys.specs.Journeys.{end_of, event_numbered, reaches_at}
use Rattle.journeys.proofs.Spans.{within_ends}
use Rattle.walks.specs.Logs.{IsCandidate, Log, IsRight, IsRightAt, fresh, linked}
use Rattle.walks.specs.Logs as logs
use Rattle.scans.specs.declared.entry.Entry.{Entry}
use Rattle.scans.specs.declared.entry.Stage.{Stage}
use Rattle.scans.specs.Accounts.{Accounts, AllLater}
use Rattle.scans.specs.Boards.{entry_for, slot_of}
use Rattle.scans.specs.Entering.{best_before, capped_end, entry_from}
use Rattle.scans.specs.Progress.{WritesEntry, IsRightUpTo, Scans}
use Rattle.scans.specs.Tables.{Contents, arrivals_in}
use Rattle.scans.specs.Views.{Agrees, log_entry, view}
use Rattle.scans.proofs.Accounting.{accounts_noted, slot_stop}
use Rattle.scans.proofs.Entries.{right_step}

-- candidates look only at earlier entries
module _ {L : Type 0} (m : Ops L) (es : List Event) (p : ℕ → Bool) (q : Query) (g h : Log L) (i : ℕ) (same : (j : ℕ) (b : Bool) → j < i → g j b ≡ h j b) where
  candidate_moves : (c : Bool) (l : L) (o : logs.Predecessor) → IsCandidate m es p q g i c l o → IsCandidate m es p q h i c l o
  candidate_moves c l o (fresh s z) = fresh s z
  candidate_moves c l o (linked j b a r k lt link pass e) = linked j b a r k lt link pass (sym (same j b lt) ∙ e)

pub right_moves : {L : Type 0} (m : Ops L) (es : List Event) (p : ℕ → Bool) (q : Query) (g h : Log L) (i : ℕ) → ((j : ℕ) (b : Bool) → j < i → g j b ≡ h j b) → (c : Bool) (r : Option (L × logs.Predecessor)) → IsRightAt m es p q g i c r → IsRightAt m es p q h i c r
right_moves m es p q g h i same c (Some x) a = (
  candidate_moves m es p q g h i same c x.0 x.1 a.0,
  λ l o d. a.1 l o (candidate_moves m es p q h g i (λ j b lt. sym (same j b lt)) c l o d),
)
right_moves m es p q g h i same c None a = λ l o d. a l o (candidate_moves m es p q h g i (λ j b lt. sym (same j b lt)) c l o d)

-- one event more to account for
pub accounts_more : {L : Type 0} (m : Ops L) (tables : Contents L) (k t : ℕ) → Accounts m tables k t → Accounts m tables (k + 1) t
accounts_more m tables k t a =
    record {
      heaped = a.heaped;
      wide = a.wide;
      near = λ j c e h. let n = a.near j c e h in (omega (arith, n.0), n.1);
      queued = λ x h. let n = a.queued x h in (omega (arith, n.0), n.1);
      incumbent = λ s c x l h. let n = a.incumbent s c x l h in (omega (arith, n.0), n.1);
      covered = a.covered;
    }

abbrev stage : ℕ → Bool → Stage
stage k c = record { event = k; called = c }

-- what noting makes of the tables
module _ {L : Type 0} (k : ℕ) (c : Bool) (tables after : Contents L) where
  noting_other : (r : Option (Entry L)) → WritesEntry r (stage k c) tables after → (j : ℕ) (b : Bool) → (slot_of j b ≡ slot_of k c → ⊥) → entry_for after.log j b ≡ entry_for tables.log j b
  noting_other None n j b d = ap (λ x. entry_for x.log j b) n
  noting_other (Some e) n j b d = ap (λ x. entry_for x j b) n.0 ∙ get_or-set_other tables.log (slot_of k c) (slot_of j b) (Some e) None d

  noting_here : (r : Option (Entry L)) → WritesEntry r (stage k c) tables after → slot_of k c < length tables.log → entry_for tables.log k c ≡ None → entry_for after.log k c ≡ r
  noting_here None n l e = ap (λ x. entry_for x.log k c) n ∙ e
  noting_here (Some x) n l e = ap (λ y. entry_for y k c) n.0 ∙ get_or-set_same tables.log (slot_of k c) (Some x) None l

  noting_long : (r : Option (Entry L)) → WritesEntry r (stage k c) tables after → length after.log ≡ length tables.log
  noting_long None n = ap (λ x. length x.log) n
  noting_long (Some e) n = ap length n.0 ∙ length-set tables.log (slot_of k c) (Some e)

  noting_board : (r : Option (Entry L)) → WritesEntry r (stage k c) tables after → after.board ≡ tables.board
  noting_board None n = ap (λ x. x.board) n
  noting_board (Some e) n = n.1

  noting_accounts : (m : Ops L) (n t : ℕ) (r : Option (Entry L)) → WritesEntry r (stage k c) tables after → slot_of k c < length tables.log → entry_for tables.log k c ≡ None → k < n → ((e : Entry L) → r ≡ Some e → e.stop < most_stops) → Accounts m tables n t → Accounts m after n t
  noting_accounts m n t None i l e u s a = subst (λ x. Accounts m x n t) (sym i) a
  noting_accounts m n t (Some x) i l e u s a =
      subst (λ y. Accounts m (record after { log = y }) n t) (sym i.0)
      (subst (λ y. Accounts m (record after { log = set tables.log (slot_of k c) (Some x); board = y }) n t) (sym i.1)
      (accounts_noted m tables n t a k c x after.queue after.used u (s x refl) l e i.2))

-- there is no entry yet for the event that comes next
module _ {L : Type 0} (m : Ops L) (tables : Contents L) (k t : ℕ) (a : Accounts m tables k t) where
  pub next_none : (c : Bool) → entry_for tables.log k c ≡ None
  next_none c = by_entry (entry_for tables.log k c) refl
    where
      by_entry : (r : Option (Entry L)) → entry_for tables.log k c ≡ r → r ≡ None
      by_entry None e = refl
      by_entry (Some x) e = absurd (omega (arith, (a.near k c x e).0))

-- a scan with the event out of force, and one with it in force
module _ {L : Type 0} (m : Ops L) (laws : Laws m) (es : List Event) (p : ℕ → Bool) (q : Query) (k : ℕ) (listed : IsTimetable es) (inside : k < length es) (tables : Contents L) (accounts : Accounts m tables k (time_of (event_numbered es k))) (later : AllLater (time_of (event_numbered es k)) (arrivals_in tables)) (agrees : Agrees es tables.log) (right : IsRight m es p q (view tables.log) k) where
  abbrev here : Event
  here = event_numbered es k

  abbrev now : ℕ
  now = time_of here

  within : IsWithinLimits here
  within = All-get_or IsWithinLimits es k (opening_event 0 0) inside listed.within

  -- right up to here, and right here
  right_next : (log : List (Option (Entry L))) → ((j : ℕ) (b : Bool) → j < k → entry_for log j b ≡ entry_for tables.log j b) → ((c : Bool) → IsRightAt m es p q (view tables.log) k c (option_map log_entry (entry_for log k c))) → IsRight m es p q (view log) (k + 1)
  right_next log same at i c h =
      ⊎_elim
      (λ l.
      subst (IsRightAt m es p q (view log) i c) (sym (ap (option_map log_entry) (same i c l)))
      (right_moves m es p q (view tables.log) (view log) i (λ j b u. sym (ap (option_map log_entry) (same j b (omega arith)))) c (view tables.log i c) (right i c l)))
      (λ l.
      let e : k ≡ i = omega arith in
      subst (λ n. IsRightAt m es p q (view log) n c (view log n c)) e
      (right_moves m es p q (view tables.log) (view log) k (λ j b u. sym (ap (option_map log_entry) (same j b u))) c (view log k c) (at c)))
      (cases_lt i k)

  none : (c : Bool) → entry_for tables.log k c ≡ None
  none = next_none m tables k now accounts

  pub stands_out_of_force : p k ≡ false → IsRightUpTo m es p q (k + 1) now tables
  stands_out_of_force f =
      record {
        accounts = accounts_more m tables k now accounts;
        agrees = agrees;
        right = right_next tables.log (λ j b _. refl) (λ c. subst (λ r. IsRightAt m es p q (view tables.log) k c (option_map log_entry r)) (sym (none c)) (no_candidate c));
      }
    where
      no_candidate : (c : Bool) (l : L) (o : logs.Predecessor) → IsCandidate m es p q (view tables.log) k c l o → ⊥
      no_candidate c l o (fresh s z) = both_ways _ f s.0.1
      no_candidate c l o (linked j b a r kn lt link pass e) = both_ways _ f kn.1

  abbrev entry : Bool → Option (Entry L)
  entry c = entry_from m here (best_before m tables.board q here c)

  entry_here : (c : Bool) (e : Entry L) → entry c ≡ Some e → (e.stop ≡ reaches_at here) × (e.end ≡ end_of here)
  entry_here c e = by_choice (best_before m tables.board q here c)
    where
      by_choice : (x : Option (L × Option Stage)) → entry_from m here x ≡ Some e → (e.stop ≡ reaches_at here) × (e.end ≡ end_of here)
      by_choice None h = absurd (none-some _ h)
      by_choice (Some x) h =
          let y = same_Some _ _ h in
          let capped : capped_end here ≡ end_of here = omega (arith, within_ends here within) in
          (sym (ap (λ z. z.stop) y), sym (ap (λ z. z.end) y) ∙ capped)

  stop_here : (c : Bool) (e : Entry L) → entry c ≡ Some e → e.stop < most_stops
  stop_here c e h = subst (λ s. s < most_stops) (sym (entry_here c e h).0) (reaches_small here within)
    where
      reaches_small : (e : Event) → IsWithinLimits e → reaches_at e < most_stops
      reaches_small (Opening o) w = w.1
      reaches_small (Ride r) w = w.1.1

  module _ (force : p k ≡ true) (room : slot_of k true < length tables.log) (between after : Contents L) (first : WritesEntry (entry false) (stage k false) tables between) (next : WritesEntry (entry_from m here (best_before m between.board q here true)) (stage k true) between after) where
    second : WritesEntry (entry true) (stage k true) between after
    second = subst (λ b. WritesEntry (entry_from m here (best_before m b q here true)) (stage k true) between after) (noting_board k false tables between (entry false) first) next

    apart : slot_of k true ≡ slot_of k false → ⊥
    apart h = omega arith

    apart' : slot_of k false ≡ slot_of k true → ⊥
    apart' h = omega arith

    none_between : entry_for between.log k true ≡ None
    none_between = noting_other k false tables between (entry false) first k true apart ∙ none true

    long_between : slot_of k true < length between.log
    long_between = subst (λ n. slot_of k true < n) (sym (noting_long k false tables between (entry false) first)) room

    room' : slot_of k false < length tables.log
    room' = omega arith

    -- every slot of the log as it is then
    elsewhere : (j : ℕ) (b : Bool) → (j ≡ k → ⊥) → entry_for after.log j b ≡ entry_for tables.log j b
    elsewhere j b n =
        noting_other k true between after (entry true) second j b (λ s. n (slot_stop j k b true s).0)
        ∙ noting_other k false tables between (entry false) first j b (λ s. n (slot_stop j k b false s).0)

    written : (c : Bool) → entry_for after.log k c ≡ entry c
    written true = noting_here k true between after (entry true) second long_between none_between
    written false =
        noting_other k true between after (entry true) second k false apart'
        ∙ noting_here k false tables between (entry false) first room' (none false)

    agrees_after : Agrees es after.log
    agrees_after j c e h =
        ⊎_elim
        (λ s.
        let w = entry_here c e (sym (written c) ∙ ap (λ n. entry_for after.log n c) (sym s) ∙ h) in
        (w.0 ∙ ap (λ n. reaches_at (event_numbered es n)) (sym s), w.1 ∙ ap (λ n. end_of (event_numbered es n)) (sym s)))
        (λ n. agrees j c e (sym (elsewhere j c n) ∙ h))
        (cases_eq j k)

    pub stands_in_force : IsRightUpTo m es p q (k + 1) now after
    stands_in_force =
        let more = accounts_more m tables k now accounts in
        let one = noting_accounts k false tables between m (k + 1) now (entry false) first room' (none false) (omega arith) (stop_here false) more in
        record {
          accounts = noting_accounts k true between after m (k + 1) now (entry true) second long_between none_between (omega arith) (stop_here true) one;
          agrees = agrees_after;
          right =
              right_next after.log (λ j b l. elsewhere j b (λ e. absurd (omega arith)))
              (λ c.
              subst (λ r. IsRightAt m es p q (view tables.log) k c (option_map log_entry r)) (sym (written c))
              (right_step m laws es p q tables k (inside, force) within accounts later agrees c));
        }

-- what draining to a minute leaves
pub record Drained {L : Type 0} (m : Ops L) (minute : ℕ) (before after : Contents L) : Type 0 where
  pub log : after.log ≡ before.log
  pub accounts : (k t : ℕ) → t ≤ minute → Accounts m before k t → Accounts m after k minute × AllLater minute (arrivals_in after)

module _ {L : Type 0} (m : Ops L) (laws : Laws m) (q : Query) (k : ℕ) (e : Event) (minute : ℕ) (time : minute ≡ time_of e) (before drained : Contents L) (drain : Drained m minute before drained) where
  in_time : Drained m (time_of e) before drained
  in_time = subst (λ t. Drained m t before drained) time drain

  pub steps_out_of_force : (b : Bool) → b ≡ false → Scans m q k e b before drained
  steps_out_of_force b is es p t listed inside at force le s = subst P at done in_time le
    where
      P : Event → Type 0
      P e = Drained m (time_of e) before drained → t ≤ time_of e → IsRightUpTo m es p q (k + 1) (time_of e) drained

      done : P (event_numbered es k)
      done d u =
          let a = d.accounts k t u s.accounts in
          stands_out_of_force m laws es p q k listed inside drained a.0 a.1 (subst (Agrees es) (sym d.log) s.agrees)
          (subst (λ l. IsRight m es p q (view l) k) (sym d.log) s.right) (force ∙ is)

  module _ (room : slot_of k true < length before.log) (between after : Contents L) (first : WritesEntry (entry_from m e (best_before m drained.board q e false)) (stage k false) drained between) (next : WritesEntry (entry_from m e (best_before m between.board q e true)) (stage k true) between after) where
    pub steps_in_force : (b : Bool) → b ≡ true → Scans m q k e b before after
    steps_in_force b is es p t listed inside at force le s = subst P at done in_time first next le
      where
        P : Event → Type 0
        P e =
            Drained m (time_of e) before drained
            → WritesEntry (entry_from m e (best_before m drained.board q e false)) (stage k false) drained between
            → WritesEntry (entry_from m e (best_before m between.board q e true)) (stage k true) between after
            → t ≤ time_of e
            → IsRightUpTo m es p q (k + 1) (time_of e) after

        done : P (event_numbered es k)
        done d n o u =
            let a = d.accounts k t u s.accounts in
            stands_in_force m laws es p q k listed inside drained a.0 a.1 (subst (Agrees es) (sym d.log) s.agrees)
            (subst (λ l. IsRight m es p q (view l) k) (sym d.log) s.right) (force ∙ is)
            (subst (λ l. slot_of k true < length l) (sym d.log) room) between after n o
