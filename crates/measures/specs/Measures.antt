-- How journeys are scored. Assumes nothing.
--     Score            a pair of whole numbers, of which either may be negative; lower is better
--     s ≼ t            s is not higher than t: by the first parts, and where these are equal by the second
--     Ops L            a measure whose labels are of the kind L, as four functions: the label of a journey
--                      that sets out in a minute (begin), what becomes of a label over a ride of so many
--                      minutes (ride), whether the first of two labels is at least as good as the second
--                      (no_worse), and the score of a journey with a label that is over in a minute (settle)
--     Laws m           what a measure m has to prove of its functions. Of any two labels one is no worse than
--                      the other (total), and no worse than no worse is no worse (transitive). A label that
--                      is no worse than another is no worse after both take the same ride, of 1 to longest_ride
--                      minutes (rides), and has no higher score where both are settled in the same minute, up
--                      to last_minute (settles)
use Rattle.std.specs.Prelude.{ℕ, ◌≤◌, ℤ, ◌<ℤ◌, ◌≤ℤ◌, Bool, true, ◌⊎◌, ◌≡◌}
use Rattle.records.specs.Limits.{last_minute, longest_ride}

abbrev pub Score : Type 0
Score = ℤ × ℤ

infix 4 ◌≼◌
abbrev pub ◌≼◌ : Score → Score → Type 0
s ≼ t = (s.0 <ℤ t.0) ⊎ ((s.0 ≡ t.0) × (s.1 ≤ℤ t.1))

pub record Ops (L : Type 0) : Type 0 where
  pub begin : ℕ → L
  pub ride : L → ℕ → L
  pub no_worse : L → L → Bool
  pub settle : L → ℕ → Score

pub record Laws {L : Type 0} (m : Ops L) : Type 0 where
  pub total : (a b : L) → (m.no_worse a b ≡ true) ⊎ (m.no_worse b a ≡ true)
  pub transitive : (a b c : L) → m.no_worse a b ≡ true → m.no_worse b c ≡ true → m.no_worse a c ≡ true
  pub rides : (a b : L) (d : ℕ) → 1 ≤ d → d ≤ longest_ride → m.no_worse a b ≡ true → m.no_worse (m.ride a d) (m.ride b d) ≡ true
  pub settles : (a b : L) (t : ℕ) → t ≤ last_minute → m.no_worse a b ≡ true → m.settle a t ≼ m.settle b t
