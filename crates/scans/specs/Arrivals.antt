-- The order of awaited arrivals. Assumes nothing.
--     by_first a B x y  x goes before y by the number a, and where these are equal by B
--     arriving t s     the arrival of the stage s in minute t
--     sooner x y       by minute, then by event number, then without a call first
use Rattle.std.specs.Prelude.{ℕ, Bool, not, ◌&&◌, ◌||◌, ◌==◌, nat_lt}
use Rattle.scans.specs.declared.arrival.Arrival.{Arrival}
use Rattle.scans.specs.declared.entry.Stage.{Stage}

abbrev pub by_first : (Arrival → ℕ) → (Arrival → Arrival → Bool) → Arrival → Arrival → Bool
by_first a B x y = nat_lt (a x) (a y) || (a x == a y && B x y)

abbrev pub sooner : Arrival → Arrival → Bool
sooner x y = by_first (λ a. a.minute) (by_first (λ a. a.stage.event) (λ a b. not a.stage.called && b.stage.called)) x y

abbrev pub arriving : ℕ → Stage → Arrival
arriving t s = record { minute = t; stage = s }
