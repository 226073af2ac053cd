-- An event in words. Assumes nothing.
--     event_text e     the text of the event e, with its numbers in decimal
use Rattle.std.specs.Prelude.{ℕ, List, ◌++◌, codes, decimal}
use Rattle.records.specs.declared.event.Event.{Event}
use Rattle.records.specs.declared.event.Event.TheVariants.{Opening, Ride}

abbrev pub event_text : Event → List ℕ
event_text (Opening o) = codes "opening at " ++ (decimal o.stop ++ (codes ", minute " ++ decimal o.minute))
event_text (Ride r) =
    decimal r.from
    ++ (codes "-"
    ++ (decimal r.to ++ (codes " " ++ (decimal r.departure ++ (codes "+" ++ decimal r.duration)))))
