-- Records in a row of bytes, loaded into memory. Assumes nothing.
--     IsStopped m bs f m'  the first records of bs, or none, were added to memory that was m and is now m', and the next one
--                          breaks the rule of the fault f; it is the next sixteen bytes, or those that are left where there
--                          are fewer
--     Fills m bs r m'      memory that was m is now m': the answer r tells how many records bs are, one behind another, and these
--                          fill it (IsFilledWith); or r is the fault at which it stopped
--     Loads m bs r m'      the same, but that after a fault m' is m
use Rattle.std.specs.Prelude.{◌≡◌, ℕ, ◌<◌, ◌⊎◌, List, [], ◌++◌, length, Some, Ok, Err, Result}
use Rattle.std.specs.List.{flat_map}
use Rattle.faults.specs.declared.Fault.{Fault}
use Rattle.faults.specs.Rules.{first_fault}
use Rattle.blocks.specs.Loads.{IsFilledWith, Filling, add_rules}

pub record IsStopped (m bs : List ℕ) (f : Fault) (m' : List ℕ) : Type 0 where
  pub held : List (List ℕ)
  pub next : List ℕ
  pub behind : List ℕ
  pub number : ℕ
  pub parts : bs ≡ flat_map (λ r. r) held ++ (next ++ behind)
  pub some : 0 < length next
  pub cut : (length next ≡ 16) ⊎ ((length next < 16) × (behind ≡ []))
  pub filling : Filling m held m' number
  pub broken : first_fault (add_rules m' number next) ≡ Some f

abbrev pub Fills : List ℕ → List ℕ → Result ℕ Fault → List ℕ → Type 0
Fills m bs (Ok n) m' = (rs : List (List ℕ)) × (bs ≡ flat_map (λ r. r) rs) × IsFilledWith m rs m' n
Fills m bs (Err f) m' = IsStopped m bs f m'

abbrev pub Loads : List ℕ → List ℕ → Result ℕ Fault → List ℕ → Type 0
Loads m bs (Ok n) m' = Fills m bs (Ok n) m'
Loads m bs (Err f) m' = (m' ≡ m) × ((filled : List ℕ) × Fills m bs (Err f) filled)
