-- The limits of what programs are asked and answer, in bytes (this project's own).
use Rattle.std.specs.Prelude.{ℕ, Bool, true, false}

-- of the arguments, as JSON: on standard input, or as a word of the command line
abbrev pub most_argument_bytes : Bool → ℕ
most_argument_bytes true = 1048576
most_argument_bytes false = 65536

abbrev pub most_output_bytes : ℕ
most_output_bytes = 1048576
