-- Marks, one for each event. Assumes nothing.
--     is_in_force marks j  event j is in force: its mark is false (true is out of force), or it has no mark
use Rattle.std.specs.Prelude.{ℕ, Bool, false, not, List, slice_index_or}

abbrev pub is_in_force : List Bool → ℕ → Bool
is_in_force marks j = not (slice_index_or marks j false)
