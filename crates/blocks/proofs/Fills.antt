-- A load's memory: what each accepted record adds to the block at its front.
use Rattle.std.proofs.Common.{◌≡◌, ℕ, ◌+◌, ◌*◌, ◌%◌, ◌≤◌, true, eqb, leb, List, [], ◌∷◌, ◌++◌, map, length, take, drop, None, Ok, sym, refl, ap, ◌∙◌, subst, append_assoc, add-one, arith}
use Rattle.std.proofs.lemmas.List.{append-nil, drop_at, drop-drop, flat_map_more, length-append, length-drop, length-take-le, take-append-drop, take_at}
use Rattle.std.proofs.lemmas.Bool.{and_parts, eq-eqb, eqb-true, le-leb, leb-true}
use Rattle.std.specs.List.{flat_map}
use Rattle.std.specs.Simd.{first_chunks}
use Rattle.faults.specs.Rules.{IsKept, first_fault}
use Rattle.faults.proofs.Rules.{append_kept, first_broken_kept, judged_kept, kept_append, kept_from_tests, tests_true}
use Rattle.records.specs.Layout.{event_in}
use Rattle.records.specs.Limits.{most_events}
use Rattle.blocks.specs.Blocks.{block_rules, last_event, records_rules, rules_after}
use Rattle.blocks.specs.Loads.{IsFilledWith, Filling, add_rules, added, begun, event_before, memory_with, room_rules}
use Rattle.blocks.specs.Rows.{count, records_of, size_rules}
use Rattle.blocks.proofs.Lists.{behind_by_place, last_event_push, rules_behind}
use Rattle.blocks.proofs.Records.{first_chunks-append, first_chunks_push, take-first_chunks}
use borrow.Rule.Slice.PartMut.{put_mid}

-- a record that is written over a part of memory
pub placed_part : (m r ys : List ℕ) (i a k : ℕ) → ys ≡ r → i ≡ a → length r ≡ k → memory_with m i r ≡ put_mid a k m ys
placed_part m r ys i a k e f g = rw (e, f, g, drop-drop k a m) refl

-- what the rules for adding a record say
pub record AddBounds (m : List ℕ) (n : ℕ) (r : List ℕ) : Type 0 where
  pub long : length r ≡ 16
  pub few : n + 1 ≤ most_events
  pub room : 16 * n + 16 ≤ length m
  pub follows : IsKept (rules_after (event_before m n) n r)

pub add_bounds : (m : List ℕ) (n : ℕ) (r : List ℕ) → IsKept (add_rules m n r) → AddBounds m n r
add_bounds m n r ok =
    let k = kept_append (room_rules m n r) (rules_after (event_before m n) n r) ok in
    let t = tests_true (room_rules m n r) k.0 in
    let p = and_parts (leb (n + 1) most_events) (leb (16 * n + 16) (length m)) t.1.0 in
    record {
      long = eqb-true (length r) 16 t.0;
      few = leb-true (n + 1) most_events p.0;
      room = leb-true (16 * n + 16) (length m) p.1;
      follows = k.1;
    }

-- memory that holds n records, rs, and was handed over as o; they break no rule, whatever more stands behind them
record Holds (o : List ℕ) (rs : List (List ℕ)) (m : List ℕ) (n : ℕ) : Type 0 where
  number : n ≡ length rs
  few : n ≤ most_events
  room : n * 16 ≤ length m
  records : take n (records_of m) ≡ rs
  front : take (16 * n) m ≡ flat_map (λ r. r) rs
  kept : (more : List (List ℕ)) → first_fault (rules_behind None 0 (rs ++ more)) ≡ first_fault (rules_behind (last_event rs) n more)
  rest : drop (16 * n) m ≡ drop (16 * n) o

module _ {o : List ℕ} {rs : List (List ℕ)} {m : List ℕ} {n : ℕ} (h : Holds o rs m n) where
  held-length : length (take (16 * n) m) ≡ 16 * n
  held-length = length-take-le (16 * n) m (omega (arith, h.room))

  held-records : first_chunks 16 n (take (16 * n) m) ≡ rs
  held-records =
      sym (first_chunks-append n (take (16 * n) m) (drop (16 * n) m) (omega (arith, held-length)))
      ∙ ap (first_chunks 16 n) (take-append-drop (16 * n) m)
      ∙ sym (take-first_chunks n (count m) m (omega (arith, h.room)))
      ∙ h.records

-- an accepted record
module _ (o : List ℕ) (rs : List (List ℕ)) (m : List ℕ) (n : ℕ) (r : List ℕ) (ok : IsKept (add_rules m n r)) (h : Holds o rs m n) where
  abbrev held : List ℕ
  held = take (16 * n) m

  abbrev bounds : AddBounds m n r
  bounds = add_bounds m n r ok

  abbrev behind : List ℕ
  behind = drop (16 * n + length r) m

  grown_length : length (held ++ r) ≡ 16 * (n + 1)
  grown_length = length-append held r ∙ omega (arith, held-length h, bounds.long)

  placed-front : memory_with m (16 * n) r ≡ (held ++ r) ++ behind
  placed-front = sym (append_assoc held r behind)

  placed-take : take (16 * (n + 1)) (memory_with m (16 * n) r) ≡ held ++ r
  placed-take = ap (take (16 * (n + 1))) placed-front ∙ take_at (held ++ r) behind (16 * (n + 1)) grown_length

  placed-drop : drop (16 * (n + 1)) (memory_with m (16 * n) r) ≡ drop (16 * (n + 1)) o
  placed-drop =
      let e : 16 * n + length r ≡ 16 * (n + 1) = omega (arith, bounds.long) in
      let i : 16 * n + 16 ≡ 16 * (n + 1) = omega arith in
      ap (drop (16 * (n + 1))) placed-front
      ∙ drop_at (held ++ r) behind (16 * (n + 1)) grown_length
      ∙ ap (λ k. drop k m) (e ∙ sym i)
      ∙ sym (drop-drop 16 (16 * n) m)
      ∙ ap (drop 16) h.rest
      ∙ drop-drop 16 (16 * n) o
      ∙ ap (λ k. drop k o) i

  placed-length : length (memory_with m (16 * n) r) ≡ length m
  placed-length =
      ap length placed-front
      ∙ length-append (held ++ r) behind
      ∙ omega (arith, grown_length, bounds.long, bounds.room, length-drop (16 * n + length r) m)

  placed-records : take (n + 1) (records_of (memory_with m (16 * n) r)) ≡ rs ++ r ∷ []
  placed-records =
      take-first_chunks (n + 1) (count (memory_with m (16 * n) r)) (memory_with m (16 * n) r) (omega (arith, placed-length, bounds.room))
      ∙ ap (first_chunks 16 (n + 1)) placed-front
      ∙ first_chunks-append (n + 1) (held ++ r) behind (omega (arith, grown_length))
      ∙ ap (λ k. first_chunks 16 k (held ++ r)) (add-one n)
      ∙ first_chunks_push n held r (omega (arith, held-length h)) bounds.long
      ∙ ap (λ l. l ++ r ∷ []) (held-records h)

  holds_more : Holds o (rs ++ r ∷ []) (memory_with m (16 * n) r) (n + 1)
  holds_more =
      record {
        number = omega (arith, h.number, length-append rs (r ∷ []));
        few = bounds.few;
        room = omega (arith, placed-length, bounds.room);
        records = placed-records;
        front = placed-take ∙ ap (λ x. x ++ r) h.front ∙ flat_map_more (λ x. x) [] rs r;
        kept = λ more.
            ap (λ l. first_fault (rules_behind None 0 l)) (append_assoc rs (r ∷ []) more)
            ∙ h.kept (r ∷ more)
            ∙ first_broken_kept (rules_after (last_event rs) n r) _ (subst (λ l. IsKept (rules_after (last_event l) n r)) h.records bounds.follows)
            ∙ ap (λ o. first_fault (rules_behind o (n + 1) more)) (sym (last_event_push rs r));
        rest = placed-drop;
      }

holds_from_filling : {o : List ℕ} {rs : List (List ℕ)} {m : List ℕ} {n : ℕ} → Filling o rs m n → Holds o rs m n
holds_from_filling begun =
    record { number = refl; few = omega arith; room = omega arith; records = refl; front = refl; kept = λ more. refl; rest = refl }
holds_from_filling {o} (added {rs} {m} {n} r f k) = holds_more o rs m n r k (holds_from_filling f)

pub filled_from_filling : (o : List ℕ) (rs : List (List ℕ)) (m : List ℕ) (n : ℕ) → Filling o rs m n → IsFilledWith o rs m n
filled_from_filling o rs m n f =
    let h = holds_from_filling f in
    let l = length-take-le (16 * n) m (omega (arith, h.room)) in
    let c : count (take (16 * n) m) ≡ n = omega arith in
    let e : records_of (take (16 * n) m) ≡ rs = ap (λ k. first_chunks 16 k (take (16 * n) m)) c ∙ held-records h in
    let t : eqb (length (take (16 * n) m) % 16) 0 ≡ true = eq-eqb (length (take (16 * n) m) % 16) 0 (omega arith) in
    let u : leb (count (take (16 * n) m)) most_events ≡ true = le-leb (count (take (16 * n) m)) most_events (omega (arith, h.few)) in
    let s = kept_from_tests (size_rules most_events (take (16 * n) m)) (t, (u, tt)) in
    let r : IsKept (records_rules rs) = ap first_fault (sym (behind_by_place rs)) ∙ ap (λ l. first_fault (rules_behind None 0 l)) (sym (append-nil rs)) ∙ h.kept [] in
    let k : IsKept (block_rules (take (16 * n) m)) = append_kept (size_rules most_events (take (16 * n) m)) (records_rules (records_of (take (16 * n) m))) s (subst (λ x. IsKept (records_rules x)) (sym e) r) in
    record { number = h.number; front = h.front; opens = judged_kept _ _ k ∙ ap (λ x. Ok (map event_in x)) e; rest = h.rest }
