-- What `set_fact` wants of its arguments.
use Rattle.std.specs.Prelude.{Bool, false}
use Rattle.pb_language.specs.Expression.{Parts, no_parts, part}
use Rattle.pb_language.specs.Rules.{can_be_set}

-- at least one name, and each can be set
abbrev pub are_variables : Parts → Bool
are_variables no_parts = false
are_variables (part n e ps) = can_be_set (part n e ps)
