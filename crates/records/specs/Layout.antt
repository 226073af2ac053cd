-- The sixteen bytes of a record. Assumes nothing.
--     half bs i        the number in the two bytes from i, highest first
--     word bs i        the number in the four bytes from i, highest first
--     ride_in bs       the ride in the fields of a record, whatever its kind
--     event_in bs      the event in the fields of a record: an opening where the kind is 1, else a ride
--     is_opening_record bs, is_ride_record bs  the kind is an opening's, 1, or a ride's, 2
--     spare_bytes bs   the bytes that its kind does not use, a ride's where it is not an opening's
--     zeros bs         every byte is 0
--     form_rules p bs  the rules of a record's form, at place p: its kind is an opening's or a ride's, its spare
--                      bytes are 0
--     record_rules p bs  the rules that a record obeys, at place p: those of its form, and the limits of its event
--     reading p bs     what reading a record at place p answers
--     bytes2 n, bytes4 n  the number n in two bytes, and in four, highest first
--     layout e         the sixteen bytes that record an event
--     writing e        what writing an event answers
use Rattle.std.specs.Prelude.{ℕ, ◌+◌, ◌*◌, ◌/◌, ◌%◌, Bool, ◌||◌, List, [], ◌∷◌, ◌++◌, replicate, Result, ◌==◌, slice_index, if◌then◌else◌}
use Rattle.std.specs.List.{list_all}
use Rattle.faults.specs.declared.Fault.{Fault}
use Rattle.faults.specs.declared.Fault.TheVariants.{WrongKind, SpareByteSet}
use Rattle.faults.specs.Rules.{Rule, ruling}
use Rattle.records.specs.declared.event.Event.{Event}
use Rattle.records.specs.declared.event.Event.TheVariants.{Opening, Ride}
use Rattle.records.specs.declared.event.Ride as event
use Rattle.records.specs.declared.kind.Kind.TheVariants.{Opening as OpeningKind, Ride as RideKind}
use Rattle.records.specs.Events.{limits}
use Rattle.records.specs.Kinds.{spare_bytes_of}

abbrev pub half : List ℕ → ℕ → ℕ
half bs i = slice_index bs i * 256 + slice_index bs (i + 1)

abbrev pub word : List ℕ → ℕ → ℕ
word bs i =
    slice_index bs i * 16777216
    + slice_index bs (i + 1) * 65536
    + slice_index bs (i + 2) * 256
    + slice_index bs (i + 3)

abbrev pub is_opening_record : List ℕ → Bool
is_opening_record bs = slice_index bs 0 == 1

abbrev pub is_ride_record : List ℕ → Bool
is_ride_record bs = slice_index bs 0 == 2

abbrev pub ride_in : List ℕ → event.Ride
ride_in bs =
    record {
      from = slice_index bs 1;
      to = slice_index bs 2;
      departure = word bs 4;
      duration = half bs 8;
    }

abbrev pub event_in : List ℕ → Event
event_in bs =
    if is_opening_record bs
    then Opening (record { stop = slice_index bs 1; minute = word bs 4 })
    else Ride (ride_in bs)

abbrev pub spare_bytes : List ℕ → List ℕ
spare_bytes bs =
    if is_opening_record bs then spare_bytes_of OpeningKind bs else spare_bytes_of RideKind bs

abbrev pub zeros : List ℕ → Bool
zeros bs = list_all (λ b. b == 0) bs

abbrev pub form_rules : ℕ → List ℕ → List Rule
form_rules p bs = (is_opening_record bs || is_ride_record bs, WrongKind p) ∷ (zeros (spare_bytes bs), SpareByteSet p) ∷ []

abbrev pub record_rules : ℕ → List ℕ → List Rule
record_rules p bs = form_rules p bs ++ limits p (event_in bs)

abbrev pub reading : ℕ → List ℕ → Result Event Fault
reading p bs = ruling (record_rules p bs) (event_in bs)

abbrev pub bytes2 : ℕ → List ℕ
bytes2 n = (n / 256 % 256) ∷ (n % 256) ∷ []

abbrev pub bytes4 : ℕ → List ℕ
bytes4 n = (n / 16777216 % 256) ∷ (n / 65536 % 256) ∷ (n / 256 % 256) ∷ (n % 256) ∷ []

abbrev pub layout : Event → List ℕ
layout (Opening o) = 1 ∷ o.stop ∷ 0 ∷ 0 ∷ (bytes4 o.minute ++ replicate 8 0)
layout (Ride r) = 2 ∷ r.from ∷ r.to ∷ 0 ∷ (bytes4 r.departure ++ (bytes2 r.duration ++ replicate 6 0))

abbrev pub writing : Event → Result (List ℕ) Fault
writing e = ruling (limits 0 e) (layout e)
