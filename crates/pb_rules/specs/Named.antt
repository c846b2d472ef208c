-- What isn't the host's own name, the variable `inventory_hostname` (this project's own).
use Rattle.std.specs.Prelude.{Bool, true, not}
use Rattle.pb_language.specs.Expression.{Root, variable, alias, other, member}
use Rattle.pb_alike.specs.Named.{is_own_name}
use Rattle.pb_vars.specs.Reads.{Read, value_at, tested_at, alone, looked_for}

abbrev pub is_no_name : Root → Bool
is_no_name (variable n) = not (is_own_name n)
is_no_name (alias n e) = true
is_no_name (other t x) = true
is_no_name (member g i) = true

abbrev pub reads_no_name : Read → Bool
reads_no_name (value_at r ns) = is_no_name r
reads_no_name (tested_at r) = is_no_name r
reads_no_name (alone o) = true
reads_no_name (looked_for t) = true
