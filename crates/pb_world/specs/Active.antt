-- Which hosts are active.
use Rattle.std.specs.Prelude.{ℕ, List, Bool, true, false, replicate, slice_set}
use Rattle.std.specs.List.{fold}

-- of so many hosts the active ones, in the order of their batch
pub record Active : Type 0 where
  pub hosts : ℕ
  pub members : List ℕ

abbrev pub with_flag : List Bool → ℕ → List Bool
with_flag flags host = slice_set flags host true

-- of each of so many whether it is among them
abbrev pub flags_of : ℕ → List ℕ → List Bool
flags_of hosts members = fold with_flag (replicate hosts false) members
