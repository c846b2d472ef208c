-- The weight of parts (this project's own).
use Rattle.std.specs.Prelude.{ℕ, ◌+◌, ◌/◌, ◌≤◌, max}
use Rattle.pb_semantics.specs.Limits.{most_weight_levels}
use Rattle.pb_value.specs.declared.weight.Weight.{Weight}

abbrev pub nothing : Weight
nothing = record { leaves = 0; levels = 0 }

abbrev pub leaf : Weight
leaf = record { leaves = 1; levels = 0 }

-- of so many bytes
abbrev pub text_weight : ℕ → Weight
text_weight n = record { leaves = 1 + n / 64; levels = 0 }

abbrev pub names_weight : ℕ → Weight
names_weight n = record { leaves = 1 + n; levels = 0 }

abbrev pub both : Weight → Weight → Weight
both v w = record { leaves = v.leaves + w.leaves; levels = max v.levels w.levels }

-- a list or a record round such parts
abbrev pub above : Weight → Weight
above w = record { leaves = w.leaves + 1; levels = w.levels + 1 }

abbrev pub IsWithin : ℕ → Weight → Type 0
IsWithin most w = (w.leaves ≤ most) × (w.levels ≤ most_weight_levels)
