-- Text that is put behind text, and copied over other bytes. Assumes nothing.
--     spaced_number n      a space and the number n, in decimal
--     Pushes n t bs r t'   the answer r tells that the text t of a line of n bytes has become t', by bs behind it, or that
--                          there is no room for all of bs
--     IsOverFront bs m n m'  m' is m with bs over its first n bytes
--     CopiesOut k bs m a m'  the answer a tells how many bytes were written, bs over the front of m; none, with m as it
--                          was, where bs are longer than m or than k bytes
use Rattle.std.specs.Prelude.{◌≡◌, ℕ, ◌+◌, ◌<◌, ◌≤◌, min, List, ◌∷◌, ◌++◌, length, drop, Some, None, Ok, Err, Option, Result, decimal}
use Rattle.std.specs.Str.{byte}

abbrev pub spaced_number : ℕ → List ℕ
spaced_number n = byte " " ∷ decimal n

abbrev pub Pushes : {E : Type 0} → ℕ → List ℕ → List ℕ → Result (Unit {0}) E → List ℕ → Type 0
Pushes n t bs (Ok _) t' = t' ≡ t ++ bs
Pushes n t bs (Err _) t' = n < length t + length bs

abbrev pub IsOverFront : List ℕ → List ℕ → ℕ → List ℕ → Type 0
IsOverFront bs m n m' = (n ≡ length bs) × (n ≤ length m) × (m' ≡ bs ++ drop n m)

abbrev pub CopiesOut : ℕ → List ℕ → List ℕ → Option ℕ → List ℕ → Type 0
CopiesOut k bs m (Some n) m' = (n ≤ k) × IsOverFront bs m n m'
CopiesOut k bs m None m' = (m' ≡ m) × (min k (length m) < length bs)
