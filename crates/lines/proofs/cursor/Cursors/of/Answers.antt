use Rattle.std.proofs.Common.{rules, ◌≡◌, ◌<◌, map, get_or, sym, ◌∙◌, subst, ⊎_elim, arith}
use Rattle.std.proofs.lemmas.List.{ext_get_or, get_or_past, get_or-map, length-map}
use Rattle.std.proofs.lemmas.Bool.{cases_lt}
use Rattle.records.specs.Limits.{most_lines}
use Rattle.lines.specs.Lines.{no_line}
use Rattle.lines.specs.Merges.{end_minute, cursor_of, no_cursor}
use Rattle.lines.proofs.cursor.Cursors.of.Goals as goal

pub invariant_of-result : goal.invariant_of-result
invariant_of-result c =
    let ls = c.args.lines.now in
    let m = c.map.ensures.items in
    record {
      all = m.long;
      fits = λ k.
          ⊎_elim
          (λ h.
          let t = m.at k no_line no_cursor h in
          let e : get_or c.map.result k no_cursor ≡ cursor_of (get_or ls.lines k no_line) = search rules in
          subst (λ d. end_minute d < 4294967296) (sym e) (ls.fits k))
          (λ h. subst (λ d. end_minute d < 4294967296) (sym (get_or_past c.map.result k no_cursor (omega (arith, m.long)))) (omega arith))
          (cases_lt k most_lines);
    }

pub returns : goal.returns
returns c =
    let ls = c.args.lines.now in
    let m = c.map.ensures.items in
    ext_get_or no_cursor c.map.result (map cursor_of ls.lines) (m.long ∙ sym (length-map ls.lines cursor_of ∙ ls.all))
    (λ k h.
    let t = m.at k no_line no_cursor (omega (arith, m.long)) in
    let e : get_or c.map.result k no_cursor ≡ cursor_of (get_or ls.lines k no_line) = search rules in
    e ∙ sym (get_or-map cursor_of ls.lines k no_line no_cursor (omega (arith, m.long, ls.all))))
