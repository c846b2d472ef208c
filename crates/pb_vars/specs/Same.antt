-- Values of `vars` that come to the same.
use Rattle.std.specs.Prelude.{◌≡◌}
use Rattle.pb_language.specs.Expression.{Name, Parts}
use Rattle.pb_language.specs.Expansion.{part_named}

-- the same names with the same values
pub record HaveSame (ps qs : Parts) : Type 0 where
  pub at : (n : Name) → part_named n ps ≡ part_named n qs
