-- A source of events: its list and its place. Assumes nothing.
--     Reading es p r es' p'     a read at place p of the list es answers r and leaves the list es' and the place p'
--     Rewinding es es' p'       a rewind of a source of the list es leaves the list es' and the place p'
--     Call                      a call of a source with its answer
--     Calls es p cs es' p'      the calls cs in turn took a source from the list es and place p to es' and p'
--     Repeats es p              from the list es and place p on: whatever was called before, the reads that follow a
--                               rewind answer the list from its start, none behind its end
--     Counts                    how many openings and how many rides
--     ReadThrough es r es' p'   a reading from start to end of the list es counts r and leaves the list es' and the place p'
-- Of the fields
--     same, start, end          say that the list is as before, the place 0, the place the list's end
--     item                      the answer is the event at the place, none at the end
--     step                      the place is one further, but never past the end
--     openings, rides           so many of the list's events are openings, and rides
use Rattle.std.specs.Prelude.{◌≡◌, ℕ, ◌+◌, min, List, [], ◌∷◌, ◌++◌, map, length, count_by, Option}
use Rattle.std.specs.List.{range_with_len, slice_get}
use Rattle.records.specs.declared.event.Event.{Event}
use Rattle.records.specs.Events.{is_opening, is_ride}
use Rattle.sources.specs.declared.reading.Counts.{Counts}

pub record Reading (es : List Event) (p : ℕ) (r : Option Event) (es' : List Event) (p' : ℕ) : Type 0 where
  pub same : es' ≡ es
  pub item : r ≡ slice_get es p
  pub step : p' ≡ min (p + 1) (length es)

pub record Rewinding (es es' : List Event) (p' : ℕ) : Type 0 where
  pub same : es' ≡ es
  pub start : p' ≡ 0

pub data Call : Type 0 where
  reads : Option Event → Call
  rewinds : Call

abbrev pub Calls : List Event → ℕ → List Call → List Event → ℕ → Type 0
Calls es p [] es' p' = (es' ≡ es) × (p' ≡ p)
Calls es p (reads r ∷ cs) es' p' = (ns : List Event) × (q : ℕ) × Reading es p r ns q × Calls ns q cs es' p'
Calls es p (rewinds ∷ cs) es' p' = (ns : List Event) × (q : ℕ) × Rewinding es ns q × Calls ns q cs es' p'

abbrev pub Repeats : List Event → ℕ → Type 0
Repeats es p = (before : List Call) (answers : List (Option Event)) (es' : List Event) (p' : ℕ)
    → Calls es p (before ++ rewinds ∷ map reads answers) es' p' → answers ≡ map (slice_get es) (range_with_len 0 (length answers))

pub record ReadThrough (es : List Event) (r : Counts) (es' : List Event) (p' : ℕ) : Type 0 where
  pub openings : r.openings ≡ count_by is_opening es
  pub rides : r.rides ≡ count_by is_ride es
  pub same : es' ≡ es
  pub end : p' ≡ length es
