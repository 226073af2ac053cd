-- What a block of lines that breaks no rule gives.
use Rattle.std.proofs.Common.{ℕ, ◌+◌, ◌<◌, ◌&&◌, leb, List, [], ◌∷◌, map, length, get_or, take, sym, subst, ⊎_elim, arith}
use Rattle.std.proofs.ByRecursion.{All-get_or}
use Rattle.std.specs.List.{AllByRecursion}
use Rattle.std.proofs.lemmas.List.{get_or_past, get_or-map, length-map}
use Rattle.std.proofs.lemmas.Bool.{and_parts, cases_lt, leb-true}
use Rattle.std.specs.Prelude.{slice_index}
use Rattle.faults.specs.declared.Fault.TheVariants.{NoRepetition}
use Rattle.faults.specs.Rules.{IsKept, Rule}
use Rattle.faults.proofs.Rules.{kept_append, tests_true}
use Rattle.records.specs.Events.{ride_rules, time_rule}
use Rattle.records.specs.Limits.{last_minute}
use Rattle.records.proofs.Bounds.{ride_bounds}
use Rattle.blocks.specs.Rows.{record_at}
use Rattle.blocks.proofs.Scans.{kept_at}
use Rattle.lines.specs.declared.line.Line.{Line}
use Rattle.lines.specs.Lines.{each_rules, few_rides, form_rules, last_arrival, line_in, line_limits, line_rules, no_line, rides_of, rules_at, table}
use Rattle.lines.specs.Merges.{end_minute, cursor_of}
use Rattle.lines.proofs.Timetables.{Regular, regular_fits, table_at}

regular_record : (p : ℕ) (r : List ℕ) → IsKept (line_rules p r) → ((i : ℕ) → i < 16 → slice_index r i < 256) → Regular (line_in r)
regular_record p r k at =
    let l = line_in r in
    let repeated : List Rule = (leb 1 l.interval && leb 1 l.rides, NoRepetition p) ∷ time_rule p (last_arrival l) ∷ [] in
    let limits = (kept_append (form_rules p r) (line_limits p l) k).1 in
    let parts = kept_append (ride_rules p l.first) repeated limits in
    let tests = tests_true repeated parts.1 in
    record {
      ride = ride_bounds p l.first parts.0;
      riding = leb-true 1 l.rides (and_parts (leb 1 l.interval) (leb 1 l.rides) tests.0).1;
      arriving = leb-true (last_arrival l) last_minute tests.1.0;
      narrow = omega (arith, at 10 (omega arith), at 11 (omega arith));
      leaving = at 1 (omega arith);
      reaching = at 2 (omega arith);
    }

pub regular_lines : (rs : List (List ℕ)) → IsKept (each_rules rs) → AllByRecursion (λ r. (i : ℕ) → i < 16 → slice_index r i < 256) rs
    → (k : ℕ) → k < length (map line_in rs) → Regular (get_or (map line_in rs) k no_line)
regular_lines rs kept small k h =
    let i : k < length rs = omega (arith, length-map rs line_in) in
    let t = kept_append (line_rules k (record_at rs k)) (few_rides k (rides_of (map line_in (take (k + 1) rs)))) (kept_at (rules_at rs) 0 (length rs) k k (omega arith) i kept) in
    rw (get_or-map line_in rs k [] no_line i)
    (regular_record k (record_at rs k) t.0 (All-get_or (λ r. (j : ℕ) → j < 16 → slice_index r j < 256) rs k [] i small))

pub fits_table : (ls : List Line) → ((k : ℕ) → k < length ls → Regular (get_or ls k no_line)) → (k : ℕ) → end_minute (cursor_of (get_or (table ls) k no_line)) < 4294967296
fits_table ls regular k =
    subst (λ l. end_minute (cursor_of l) < 4294967296) (sym (table_at ls k))
    (⊎_elim (λ h. regular_fits (get_or ls k no_line) (regular k h))
    (λ h. subst (λ l. end_minute (cursor_of l) < 4294967296) (sym (get_or_past ls k no_line h)) (omega arith))
    (cases_lt k (length ls)))
