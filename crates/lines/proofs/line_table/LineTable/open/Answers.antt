use Rattle.std.proofs.Common.{◌≡◌, ℕ, ◌+◌, ◌<◌, ◌≤◌, List, [], ◌∷◌, ◌++◌, map, length, get_or, set, take, sym, refl, ap, ◌∙◌, subst, arith}
use Rattle.std.proofs.lemmas.List.{drop_all, length-map, length-take-le, map_more, take_all}
use Rattle.std.proofs.lemmas.Result.{err_from_is_err_and}
use Rattle.std.proofs.lemmas.Bool.{leb-true}
use Rattle.std.specs.List.{AllByRecursion}
use Rattle.faults.specs.Rules.{IsKept, first_fault}
use Rattle.faults.proofs.Rules.{broken_from_err, first_broken_kept, judged_broken, kept_append, kept_from_ok, tests_true, value_from_ok}
use Rattle.records.specs.Events.{IsTimetable}
use Rattle.records.specs.Limits.{most_events, most_lines}
use Rattle.blocks.specs.Rows.{count, records_of, size_rules}
use Rattle.blocks.proofs.Records.{bytes_first_chunks, sized}
use Rattle.blocks.proofs.Scans.{turn_broken, turn_kept}
use Rattle.lines.specs.declared.line.Line.{Line}
use Rattle.lines.specs.Departures.{events_on}
use Rattle.lines.specs.Lines.{each_rules, few_rides, line_in, line_rules, lines_of, no_line, rides_of, table}
use Rattle.lines.specs.Merges.{end_minute, cursor_of}
use Rattle.lines.proofs.Openings.{fits_table, regular_lines}
use Rattle.lines.proofs.Scans.{behind_by_place, rides_more, rules_after, rules_behind, table_push}
use Rattle.lines.proofs.Timetables.{events_on-table, length-events, length-table, ordered_events, within_events}
use Rattle.lines.proofs.line_table.LineTable.open.Goals as goal

pub returns-in_err-line : goal.returns-in_err-line
returns-in_err-line c =
    let bs = c.args.bytes.now in
    let rs = c.in_ok-rows.rows.now in
    let s = sized most_lines bs rs c.in_ok-rows.ensures in
    let p = err_from_is_err_and c.from_residual-in_err-line.result c.from_residual-in_err-line.ensures.1 in
    let b = broken_from_err _ _ _ (sym c.read_after.ensures ∙ c.in_err-line.was) in
    let t = turn_broken rules_after (λ n r. n + (line_in r).rides) rs c.loop-place.rides c.loop-place.place (omega arith) _ b in
    rw (p.1, p.2)
    (sym
    (judged_broken _ (table (lines_of bs)) _
    (first_broken_kept (size_rules most_lines bs) (each_rules (records_of bs)) s.kept
    ∙ ap (λ l. first_fault (each_rules l)) (sym s.records)
    ∙ sym c.loop-place.invariant.tested
    ∙ t)))

pub loop-place-init : goal.loop-place-init
loop-place-init c = record { tested = ap first_fault (behind_by_place c.in_ok-rows.rows.now); filled = refl; counted = refl; few = omega arith }

pub bounds-lines-place : goal.bounds-lines-place
bounds-lines-place c =
    let s = sized most_lines c.args.bytes.now c.in_ok-rows.rows.now c.in_ok-rows.ensures in omega (arith, s.few)

pub loop-place-preserved : goal.loop-place-preserved
loop-place-preserved c =
    let rs = c.in_ok-rows.rows.now in
    let i = c.loop-place.place in
    let n = c.loop-place.rides in
    let r = get_or rs i [] in
    let l = c.in_ok-line.line in
    let s = sized most_lines c.args.bytes.now rs c.in_ok-rows.ensures in
    let h : i < length rs = omega arith in
    let k = kept_from_ok _ _ _ (sym c.read_after.ensures ∙ c.in_ok-line.was) in
    let v : line_in r ≡ l = value_from_ok _ _ _ (sym c.read_after.ensures ∙ c.in_ok-line.was) in
    let e : c.from-rides.result ≡ (line_in r).rides = c.from-rides.ensures ∙ ap (λ x. x.rides) (sym v) in
    let ls : List Line = map line_in (take i rs) in
    let more : map line_in (take (i + 1) rs) ≡ ls ++ l ∷ [] = map_more line_in rs i [] h ∙ ap (λ x. ls ++ x ∷ []) v in
    let long : length ls ≡ i = length-map (take i rs) line_in ∙ length-take-le i rs (omega arith) in
    record {
      tested = rw e (turn_kept rules_after (λ m q. m + (line_in q).rides) rs n i h k ∙ c.loop-place.invariant.tested);
      filled = ap (λ x. set x i l) c.loop-place.invariant.filled ∙ table_push ls i l long (omega (arith, s.few)) ∙ ap table (sym more);
      counted = omega (arith, c.loop-place.invariant.counted, rides_more rs i h, e);
      few = rw e (leb-true (n + (line_in r).rides) most_events (tests_true (few_rides i (n + (line_in r).rides)) (kept_append (line_rules i r) (few_rides i (n + (line_in r).rides)) k).1).0);
    }

pub invariant_of-result : goal.invariant_of-result
invariant_of-result c =
    let bs = c.args.bytes.now in
    let rs = c.in_ok-rows.rows.now in
    let i = c.loop-place.place in
    let inv = c.loop-place.invariant in
    let s = sized most_lines bs rs c.in_ok-rows.ensures in
    let end : length rs ≤ i = omega arith in
    let kept : IsKept (each_rules rs) =
    sym inv.tested ∙ ap (λ x. first_fault (rules_behind c.loop-place.rides i x)) (drop_all i rs end) in
    let small = subst (AllByRecursion (λ r. (j : ℕ) → j < 16 → get_or r j 0 < 256)) (sym s.records) (bytes_first_chunks (count bs) bs (λ j. omega (arith, (c.type_inv.bytes j).fits))) in
    let ls : List Line = map line_in rs in
    let whole = ap (map line_in) (take_all i rs end) in
    let e : c.loop-place.lines ≡ table ls = inv.filled ∙ ap table whole in
    let es : events_on ls ≡ events_on c.loop-place.lines = sym (ap events_on e ∙ events_on-table ls) in
    let n : c.loop-place.rides ≡ length (events_on c.loop-place.lines) = inv.counted ∙ ap rides_of whole ∙ sym (length-events ls) ∙ ap length es in
    let regular = regular_lines rs kept small in
    let listed : IsTimetable (events_on ls) =
    record { few = omega (arith, ap length es, n, inv.few); within = within_events ls regular; ordered = ordered_events ls } in
    record {
      all = ap length e ∙ length-table ls (omega (arith, s.few, length-map rs line_in));
      size = n;
      listed = subst IsTimetable es listed;
      fits = λ k. subst (λ x. end_minute (cursor_of (get_or x k no_line)) < 4294967296) (sym e) (fits_table ls regular k);
    }
