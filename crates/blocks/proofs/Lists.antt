-- The events of records that break no rule are a timetable's.
use Rattle.std.proofs.Common.{◌≡◌, ℕ, ◌+◌, ◌-◌, ◌<◌, ◌≤◌, true, List, [], ◌∷◌, ◌++◌, map, length, get_or, take, Some, None, Option, refl, ap, ◌∙◌, subst, arith}
use Rattle.std.proofs.ByRecursion.{All-from_get_or, All-get_or, All-map}
use Rattle.std.proofs.lemmas.List.{get_or-map, get_or_push, length-append, length-map, take_more}
use Rattle.std.proofs.lemmas.Option.{slice_get-get_or}
use Rattle.std.specs.List.{AllByRecursion}
use Rattle.faults.specs.Rules.{Rule, IsKept}
use Rattle.faults.specs.declared.Fault.TheVariants.{OutOfOrder}
use Rattle.faults.proofs.Rules.{kept_append, tests_true}
use Rattle.records.specs.declared.event.Event.{Event}
use Rattle.records.specs.Events.{IsTimetable, IsWithinLimits, may_precede}
use Rattle.records.specs.Layout.{event_in, record_rules}
use Rattle.records.specs.Limits.{most_events}
use Rattle.records.proofs.Bounds.{limits_anywhere, record_bounds, stops_event_in}
use Rattle.blocks.specs.Blocks.{may_follow, last_event, records_rules, rules_after, rules_at}
use Rattle.blocks.specs.Rows.{record_at}
use Rattle.blocks.proofs.Scans.{in_turn_by_place, kept_at, rules_in_turn}

-- the rules of the records rs from record p on, behind the event o
abbrev pub rules_behind : Option Event → ℕ → List (List ℕ) → List Rule
rules_behind o p rs = rules_in_turn rules_after (λ o r. Some (event_in r)) o p rs

pub last_event_push : (rs : List (List ℕ)) (r : List ℕ) → last_event (rs ++ r ∷ []) ≡ Some (event_in r)
last_event_push rs r =
    let more = length-append rs (r ∷ []) in
    let e : length (rs ++ r ∷ []) - 1 ≡ length rs = omega arith in
    rw (e, slice_get-get_or (rs ++ r ∷ []) (length rs) r (omega arith), get_or_push rs r r (length rs) refl) refl

last_event_more : (rs : List (List ℕ)) (i : ℕ) → i < length rs → last_event (take (i + 1) rs) ≡ Some (event_in (record_at rs i))
last_event_more rs i h = ap last_event (take_more rs i [] h) ∙ last_event_push (take i rs) (record_at rs i)

pub behind_by_place : (rs : List (List ℕ)) → rules_behind None 0 rs ≡ records_rules rs
behind_by_place rs =
    in_turn_by_place rules_after (λ o r. Some (event_in r)) rs (λ i. last_event (take i rs)) (rules_at rs)
    (λ i h. (last_event_more rs i h, refl))

within_record : (p : ℕ) (r : List ℕ) → IsKept (record_rules p r) → ((i : ℕ) → i < 16 → get_or r i 0 < 256) → IsWithinLimits (event_in r)
within_record p r k s =
    (limits_anywhere p 0 (event_in r) (record_bounds p r k).within, stops_event_in r (s 1 (omega arith)) (s 2 (omega arith)))

module _ (rs : List (List ℕ)) (kept : IsKept (records_rules rs)) where
  kept_record : (i : ℕ) → i < length rs → IsKept (record_rules i (record_at rs i)) × (may_follow (last_event (take i rs)) (event_in (record_at rs i)) ≡ true)
  kept_record i h =
      let t = kept_append (record_rules i (record_at rs i)) _ (kept_at (rules_at rs) 0 (length rs) i i (omega arith) h kept) in
      (t.0, (tests_true ((may_follow (last_event (take i rs)) (event_in (record_at rs i)), OutOfOrder i) ∷ []) t.1).0)

  in_order_records : (i : ℕ) (d : Event) → i + 1 < length rs → may_precede (get_or (map event_in rs) i d) (get_or (map event_in rs) (i + 1) d) ≡ true
  in_order_records i d h =
      let h' : i < length rs = omega arith in
      rw (get_or-map event_in rs i [] d h', get_or-map event_in rs (i + 1) [] d h)
      (subst (λ o. may_follow o (event_in (record_at rs (i + 1))) ≡ true) (last_event_more rs i h') (kept_record (i + 1) h).1)

  pub listed_records : length rs ≤ most_events → AllByRecursion (λ r. (i : ℕ) → i < 16 → get_or r i 0 < 256) rs → IsTimetable (map event_in rs)
  listed_records few small =
      let l = length-map rs event_in in
      record {
        few = omega arith;
        within =
            All-map IsWithinLimits event_in rs
            (All-from_get_or (λ r. IsWithinLimits (event_in r)) rs []
            (λ i h. within_record i (record_at rs i) (kept_record i h).0 (All-get_or (λ r. (j : ℕ) → j < 16 → get_or r j 0 < 256) rs i [] h small)));
        ordered = λ i d h. in_order_records i d (omega arith);
      }
