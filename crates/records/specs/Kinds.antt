-- The kinds of records. Assumes nothing.
--     Decodes c r      r is the kind of the byte c: 1 an opening, 2 a ride; of any other, the error with c in it
--     spare_bytes_of k bs  the bytes that a record bs of the kind k does not use
use Rattle.std.specs.Prelude.{◌≡◌, ℕ, List, ◌++◌, take, drop, Ok, Err, Result, ◌==◌, if◌then◌else◌}
use Rattle.records.specs.declared.kind.Kind.{Kind}
use Rattle.records.specs.declared.kind.Kind.TheVariants.{Opening, Ride}
use Rattle.records.specs.declared.kind.UnknownKind.{UnknownKind}

abbrev pub Decodes : ℕ → Result Kind UnknownKind → Type 0
Decodes c r = r ≡ (if c == 1 then Ok Opening else if c == 2 then Ok Ride else Err (record { 0 = c }))

abbrev pub spare_bytes_of : Kind → List ℕ → List ℕ
spare_bytes_of Opening bs = take 2 (drop 2 bs) ++ take 8 (drop 8 bs)
spare_bytes_of Ride bs = take 1 (drop 3 bs) ++ take 6 (drop 10 bs)
