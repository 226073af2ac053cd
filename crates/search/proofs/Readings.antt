-- Reading a source up to the close of a query.
use Rattle.std.proofs.Common.{◌≡◌, ℕ, zero, suc, ◌+◌, ◌*◌, ◌<◌, ◌≤◌, Bool, cond, List, [], ◌∷◌, length, Some, None, Ok, Err, Result, sym, ap, ◌∙◌, subst, ⊎_elim, arith}
use Rattle.std.proofs.lemmas.Bool.{cases_lt, le-leb, lt-leb}
use Rattle.std.specs.List.{slice_get}
use Rattle.std.proofs.lemmas.Option.{same_Some, slice_get-get_or}
use Rattle.faults.specs.declared.Fault.{Fault}
use Rattle.records.specs.declared.event.Event.{Event}
use Rattle.records.specs.Events.{IsTimetable, time_of, opening_event}
use Rattle.measures.specs.Measures.{Ops}
use Rattle.journeys.specs.declared.query.Query.{Query}
use Rattle.journeys.specs.Journeys.{event_numbered}
use Rattle.journeys.proofs.Chains.{times_rise}
use Rattle.sources.specs.Sources.{Reading}
use Rattle.sources.proofs.Readings.{at_end, before_end}
use Rattle.walks.specs.Logs.{first_late}
use Rattle.search.specs.Readings.{IsReadTo, IsRightLog}
use Rattle.scans.specs.Progress.{HasRoom, IsRightUpTo, ScansOrRefuses, Scans}
use Rattle.scans.specs.Tables.{Contents}

-- the events before k are done: the source stands at k, none of them was later than the close, and the search stands right
pub record StandingAt {L : Type 0} (m : Ops L) (es : List Event) (p : ℕ → Bool) (q : Query) (ns : List Event) (place k : ℕ) (tables : Contents L) : Type 0 where
  pub same : ns ≡ es
  pub at : place ≡ k
  pub before : (i : ℕ) → i < k → time_of (event_numbered es i) ≤ q.close
  pub few : tables.used ≤ k * 2
  pub log_long : length es * 2 ≤ length tables.log
  pub queue_long : length es * 2 ≤ length tables.queue
  pub clock : ℕ
  pub in_time : k < length es → clock ≤ time_of (event_numbered es k)
  pub stands : IsRightUpTo m es p q k clock tables

-- the first late event is the one behind those that are not
pub first_late_is : (es : List Event) (c k : ℕ) → k ≤ length es → ((i : ℕ) → i < k → time_of (event_numbered es i) ≤ c) → (k < length es → c < time_of (event_numbered es k)) → first_late es c ≡ k
first_late_is [] c k l b h = omega arith
first_late_is (e ∷ es) c zero l b h = ap (λ t. cond t (suc (first_late es c)) 0) (lt-leb (time_of e) c (h (omega arith)))
first_late_is (e ∷ es) c (suc k) l b h =
    ap (λ t. cond t (suc (first_late es c)) 0) (le-leb (time_of e) c (b 0 (omega arith)))
    ∙ ap suc (first_late_is es c k (omega arith) (λ i u. b (suc i) (omega arith)) (λ u. h (omega arith)))

-- an event more, and the end of the reading
module _ {L : Type 0} (m : Ops L) (es : List Event) (p : ℕ → Bool) (q : Query) (listed : IsTimetable es) (ns : List Event) (place k : ℕ) (tables : Contents L) (here : StandingAt m es p q ns place k tables) (ns' : List Event) (place' : ℕ) where
  right_to : k ≡ first_late es q.close → k ≤ length es → IsRightLog m es p q k tables.log
  right_to count inside =
      record {
        count = count;
        inside = inside;
        agrees = here.stands.agrees;
        right = here.stands.right;
        near = λ j c x h. (here.stands.accounts.near j c x h).0;
      }

  module _ (e : Event) (reading : Reading ns place (Some e) ns' place') where
    item : Some e ≡ slice_get es k
    item = reading.item ∙ ap (λ l. slice_get l place) here.same ∙ ap (slice_get es) here.at

    pub inside : k < length es
    inside = before_end es k e item

    is_event : event_numbered es k ≡ e
    is_event = let n = slice_get-get_or es k (opening_event 0 0) inside in same_Some _ _ (sym n ∙ sym item)

    next_place : place' ≡ k + 1
    next_place = omega (arith, reading.step, here.at, ap length here.same, inside)

    room : HasRoom k tables
    room = (omega (arith, here.log_long, inside), omega (arith, here.queue_long, here.few, inside))

    -- there is room for the event, so the event is scanned
    stepped_on : {force : Bool} {after : Contents L} (r : Result (Unit {0}) Fault) → ScansOrRefuses m q k e force tables r after → Scans m q k e force tables after × (after.used ≤ tables.used + 2)
    stepped_on (Ok u) s = (s.1, s.2)
    stepped_on (Err f) s = absurd (s.0 room)

    pub standing_more : (force : Bool) → force ≡ p k → time_of e ≤ q.close → (after : Contents L) (r : Result (Unit {0}) Fault) → ScansOrRefuses m q k e force tables r after → length after.log ≡ length tables.log → length after.queue ≡ length tables.queue → StandingAt m es p q ns' place' (k + 1) after
    standing_more force f early after r step long long' =
        let stepped = stepped_on r step in
        record {
          same = reading.same ∙ here.same;
          at = next_place;
          before =
              λ i l.
              ⊎_elim (λ u. here.before i u)
              (λ u. let s : k ≡ i = omega arith in subst (λ n. time_of (event_numbered es n) ≤ q.close) s (subst (λ x. time_of x ≤ q.close) (sym is_event) early))
              (cases_lt i k);
          few = omega (arith, here.few, stepped.1);
          log_long = omega (arith, here.log_long, long);
          queue_long = omega (arith, here.queue_long, long');
          clock = time_of e;
          in_time = λ l. subst (λ x. time_of x ≤ time_of (event_numbered es (k + 1))) is_event (times_rise es listed k (k + 1) (omega arith) l);
          stands =
              stepped.0 es p here.clock listed inside is_event (sym f)
              (subst (λ x. here.clock ≤ time_of x) is_event (here.in_time inside)) here.stands;
        }

    -- the first event that is later than the close ends the reading
    module _ (late : q.close < time_of e) where
      last_in_time : first_late es q.close ≡ k
      last_in_time = first_late_is es q.close k (omega (arith, inside)) here.before (λ _. subst (λ x. q.close < time_of x) (sym is_event) late)

      pub read_late : (n : ℕ) → n ≡ k + 1 → IsReadTo es q.close n ns' place'
      read_late n count =
          record {
            reads = omega (arith, count, last_in_time, inside);
            same = reading.same ∙ here.same;
            place = omega (arith, next_place, count);
          }

      pub right_late : IsRightLog m es p q k tables.log
      right_late = right_to (sym last_in_time) (omega (arith, inside))

  -- and so does the end of the list
  module _ (within : place ≤ length ns) (reading : Reading ns place None ns' place') where
    all_taken : k ≡ length es
    all_taken = omega (arith, at_end ns place (opening_event 0 0) reading.item, within, here.at, ap length here.same)

    none_late : first_late es q.close ≡ k
    none_late = first_late_is es q.close k (omega (arith, all_taken)) here.before (λ l. absurd (omega (arith, all_taken, l)))

    pub read_all : (n : ℕ) → n ≡ k → IsReadTo es q.close n ns' place'
    read_all n count =
        record {
          reads = omega (arith, count, none_late, all_taken);
          same = reading.same ∙ here.same;
          place = omega (arith, reading.step, here.at, ap length here.same, all_taken, count);
        }

    pub right_all : IsRightLog m es p q k tables.log
    right_all = right_to (sym none_late) (omega (arith, all_taken))
