use Rattle.std.proofs.Common.{◌≡◌, ◌≤◌, map, take, drop}
use Rattle.faults.specs.Rules.{first_fault}
use Rattle.records.specs.Limits.{most_events}
use Rattle.lines.specs.Lines.{each_rules, line_in, rides_of, table}
use Rattle.lines.proofs.Scans.{rules_behind}
use Rattle.lines.proofs.line_table.LineTable.open.Given as goal

abbrev pub invariant-loop-place : goal.invariant-loop-place
invariant-loop-place l =
    record {
      tested : first_fault (rules_behind l.rides l.place (drop l.place l.rows)) ≡ first_fault (each_rules l.rows);
      filled : l.lines ≡ table (map line_in (take l.place l.rows));
      counted : l.rides ≡ rides_of (map line_in (take l.place l.rows));
      few : l.rides ≤ most_events;
    }
