-- The entry that a scan makes of an event in a call state. Assumes nothing.
--     fresh_label m q e    the label of a journey that begins with e, none where q lets none begin there
--     continuation x b     the label of x, who is ready in call state b, and where it came from
--     better_of m f x b    x, who is ready in call state b, if there is one and it is preferred to a fresh start with the
--                          label f or there is no such start; else that start, if there is one
--     capped_end e         the end of e, up to 2 ^ 32 - 1
--     best_before m b q e c  the best label with which e can be taken so that the call state is c then, by a
--                          fresh start or from the board b, and where it came from
--     best_at m b q e o c  the same, where o says whether e is an opening
--     entry_from m e x     the entry for e that the label and predecessor x give, none where x is none
use Rattle.std.specs.Prelude.{ℕ, ◌-◌, ◌^◌, min, Bool, true, false, ◌&&◌, List, Some, None, Option, ◌==◌, nat_le, if◌then◌else◌}
use Rattle.records.specs.declared.event.Event.{Event}
use Rattle.measures.specs.Measures.{Ops}
use Rattle.journeys.specs.declared.query.Query.{Query}
use Rattle.journeys.specs.Formulas.{through}
use Rattle.journeys.specs.Journeys.{end_of, leaves_at, reaches_at, starts_at}
use Rattle.walks.specs.Logs.{is_preferred}
use Rattle.records.specs.Events.{is_opening}
use Rattle.scans.specs.declared.board.Incumbent.{Incumbent}
use Rattle.scans.specs.declared.entry.Entry.{Entry}
use Rattle.scans.specs.declared.entry.Stage.{Stage}
use Rattle.scans.specs.Boards.{offer, incumbent_at}

abbrev pub fresh_label : {L : Type 0} → Ops L → Query → Event → Option L
fresh_label m q e =
    if leaves_at e == q.from && nat_le q.open (starts_at e) then Some (m.begin (starts_at e)) else None

abbrev pub continuation : {L : Type 0} → Incumbent L → Bool → L × Option Stage
continuation x b = (x.label, Some (record { event = x.event; called = b }))

abbrev pub better_of : {L : Type 0} → Ops L → Option L → Option (Incumbent L) → Bool → Option (L × Option Stage)
better_of m None None b = None
better_of m (Some l) None b = Some (l, None)
better_of m None (Some x) b = Some (continuation x b)
better_of m (Some l) (Some x) b =
    if is_preferred m (offer x) (l, None) then Some (continuation x b) else Some (l, None)

abbrev pub capped_end : Event → ℕ
capped_end e = min (end_of e) (2 ^ 32 - 1)

abbrev pub best_at : {L : Type 0} → Ops L → List (Option (Incumbent L)) → Query → Event → Bool → Bool → Option (L × Option Stage)
best_at m board q e true false = None
best_at m board q e true true = better_of m (fresh_label m q e) (incumbent_at board (leaves_at e) false) false
best_at m board q e false true = better_of m None (incumbent_at board (leaves_at e) true) true
best_at m board q e false false = better_of m (fresh_label m q e) (incumbent_at board (leaves_at e) false) false

abbrev pub best_before : {L : Type 0} → Ops L → List (Option (Incumbent L)) → Query → Event → Bool → Option (L × Option Stage)
best_before m board q e c = best_at m board q e (is_opening e) c

abbrev pub entry_from : {L : Type 0} → Ops L → Event → Option (L × Option Stage) → Option (Entry L)
entry_from m e None = None
entry_from m e (Some x) = Some (record { label = through m e x.0; predecessor = x.1; stop = reaches_at e; end = capped_end e })
