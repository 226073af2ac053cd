-- Cursors on lines, and the queue of their next departures. Assumes nothing.
--     cursor_of l             the cursor at a line's first departure
--     next_of i c             the next departure of the line at position i, none where no ride is left
--     departures_left_of i c  the departures that are left of it
--     next_cursor c           the cursor one departure further
--     end_minute c            the minute in which the departure behind its last one would be
--     no_cursor               what stands behind the end of a table of cursors
--     next_departures cs, departures_left cs  the next departures of all lines, and the departures left of all
--     QueuesNext s u next s' u'  next, a departure or none, was put into the queue of slots s and count u, which left s' and u'
--     Draws ds x ds'          of the departures ds that were left, x goes first, and ds' are left then
--     DrawsNext ds answer ds'  the same by the answer, none where none was left
-- Two lists with equal sums, whatever is summed, are rearrangements of each other.
use Rattle.std.specs.Prelude.{◌≡◌, ℕ, ◌+◌, ◌-◌, ◌*◌, ◌<◌, ◌≤◌, false, List, [], length, Some, None, sum_by, Option, ◌==◌, if◌then◌else◌}
use Rattle.std.specs.Option.{option_to_list}
use Rattle.std.specs.List.{AllByRecursion}
use Rattle.records.specs.Limits.{most_lines}
use Rattle.queue.specs.Order.{IsHeapOrdered}
use Rattle.queue.specs.Queue.{elements}
use Rattle.lines.specs.declared.cursor.Cursor.{Cursor}
use Rattle.lines.specs.declared.departure.Departure.{Departure}
use Rattle.lines.specs.declared.line.Line.{Line}
use Rattle.lines.specs.Departures.{before, departure_at, gather, run_from}

abbrev pub no_cursor : Cursor
no_cursor = record { minute = 0; interval = 0; left = 0 }

abbrev pub cursor_of : Line → Cursor
cursor_of l = record { minute = l.first.departure; interval = l.interval; left = l.rides }

abbrev pub next_of : ℕ → Cursor → Option Departure
next_of i c = if c.left == 0 then None else Some (departure_at c.minute i)

abbrev pub departures_left_of : ℕ → Cursor → List Departure
departures_left_of i c = run_from c.minute c.interval i c.left

abbrev pub next_cursor : Cursor → Cursor
next_cursor c = record { minute = c.minute + c.interval; interval = c.interval; left = c.left - 1 }

abbrev pub end_minute : Cursor → ℕ
end_minute c = c.minute + c.left * c.interval

abbrev pub next_departures : List Cursor → List Departure
next_departures cs = gather (λ i c. option_to_list (next_of i c)) 0 cs

abbrev pub departures_left : List Cursor → List Departure
departures_left cs = gather departures_left_of 0 cs

pub record QueuesNext (slots : List Departure) (used : ℕ) (next : Option Departure) (slots' : List Departure) (used' : ℕ) : Type 0 where
  pub bag : (f : Departure → ℕ) → sum_by f (elements slots' used') ≡ sum_by f (elements slots used) + sum_by f (option_to_list next)
  pub heaped : IsHeapOrdered before (elements slots used) → IsHeapOrdered before (elements slots' used')
  pub long : length slots' ≡ length slots
  pub count : used' ≤ used + 1

pub record Draws (ds : List Departure) (x : Departure) (ds' : List Departure) : Type 0 where
  pub bag : (f : Departure → ℕ) → sum_by f ds ≡ f x + sum_by f ds'
  pub least : AllByRecursion (λ y. before y x ≡ false) ds
  pub known : x.line < most_lines

abbrev pub DrawsNext : List Departure → Option Departure → List Departure → Type 0
DrawsNext ds None ds' = (ds ≡ []) × (ds' ≡ [])
DrawsNext ds (Some x) ds' = Draws ds x ds'
