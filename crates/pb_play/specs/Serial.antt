-- Percentages as they are read, byte by byte.
use Rattle.std.specs.Prelude.{ℕ, Bool, ◌&&◌, ◌==◌, nat_le, cond, Option, Some, None}

-- the number before a byte is a percentage where that is `%` and ends the text
abbrev pub percentage_where : ℕ → ℕ → Bool → Option ℕ
percentage_where n b ends = cond (ends && (b == 37))
    (cond (nat_le 1 n && nat_le n 100) (Some n) None) None
