use Rattle.std.proofs.Common.{◌≡◌, ◌+◌, take, arith, rules, take-add, append-nil, length-drop}
use Rattle.std.proofs.KnownBytes.{Appends-kept, Appends-nil, Appends-trans}
use Rattle.conversations.proofs.Writes.{slice_end}
use Rattle.conversations.proofs.writing.write_counted.Goals as goal
use Rattle.conversations.proofs.writing.write_counted.Goals.{in-Ok, in-Err+else-ne}

pub writes-init : goal.writes-init
writes-init g c = record { within = omega arith; taken = Appends-nil _ }

pub returns-then-count-bytes-clause-bound : goal.returns-then-count-bytes-clause-bound
returns-then-count-bytes-clause-bound g c = c.writes.invariant.within

pub returns-then-count-bytes-clause-taken : goal.returns-then-count-bytes-clause-taken
returns-then-count-bytes-clause-taken g c = c.writes.invariant.taken

pub returns-then-count-bytes-clause-all : goal.returns-then-count-bytes-clause-all
returns-then-count-bytes-clause-all g c = omega (arith, c.writes.invariant.within, c.if-count-bytes.true)

pub returns-in-Ok-eq0-clause-taken : goal.returns-in-Ok-eq0-clause-taken
returns-in-Ok-eq0-clause-taken g c =
    let zero : c.in-Ok-eq0.field-0 ≡ 0 = search rules in
    let none = rw zero at c.in-Ok-eq0.ensures.bytes in
    rw (append-nil (take c.writes.count c.args.bytes.now)) at (Appends-trans _ _ _ _ _ c.writes.invariant.taken none)

pub returns-then-ne-clause-taken : goal.returns-then-ne-clause-taken
returns-then-ne-clause-taken g c = Appends-kept _ _ _ _ c.writes.invariant.taken c.in-Err.ensures.bytes

pub writes-preserved : goal.writes-preserved
writes-preserved g c =
    let inv = c.writes.invariant in
    let all = c.args.bytes.now in
    let count = c.writes.count in
    elim c.match-write.branch [
      | in-Ok w ↦
          let more = rw (slice_end all count) at w.in-Ok.ensures.bytes in
          let bound = rw (slice_end all count) at w.in-Ok.ensures.bound in
          let next : _ ≡ count + w.in-Ok.taken = w.count-is in
          rw (next, take-add count w.in-Ok.taken all) (record { within = omega (arith, inv.within, bound, length-drop count all); taken = Appends-trans _ _ _ _ _ inv.taken more })
      | in-Err+else-ne w ↦ rw w.count-is (record { within = inv.within; taken = Appends-kept _ _ _ _ inv.taken w.in-Err.ensures.bytes })
    ]

pub returns-clause-bound : goal.returns-clause-bound
returns-clause-bound g c = c.writes.invariant.within

pub returns-clause-taken : goal.returns-clause-taken
returns-clause-taken g c = c.writes.invariant.taken
