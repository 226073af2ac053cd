-- Bytes as records of sixteen. Assumes nothing.
--     count bs         how many whole records the bytes have
--     records_of bs    these records, in their order
--     record_at rs i   record i of the records rs, empty where there is none
--     size_rules most bs   the rules of the size of bs: whole records only, and at most `most` of them
use Rattle.std.specs.Prelude.{ℕ, ◌/◌, ◌%◌, List, [], ◌∷◌, length, ◌==◌, nat_le, slice_index_or}
use Rattle.std.specs.Simd.{first_chunks}
use Rattle.faults.specs.declared.Fault.TheVariants.{PartialRecord, TooManyRecords}
use Rattle.faults.specs.Rules.{Rule}

abbrev pub count : List ℕ → ℕ
count bs = length bs / 16

abbrev pub records_of : List ℕ → List (List ℕ)
records_of bs = first_chunks 16 (count bs) bs

abbrev pub record_at : List (List ℕ) → ℕ → List ℕ
record_at rs i = slice_index_or rs i []

abbrev pub size_rules : ℕ → List ℕ → List Rule
size_rules most bs =
    ((length bs % 16 == 0), PartialRecord (count bs)) ∷ (nat_le (count bs) most, TooManyRecords most) ∷ []
