-- What isn't one of these variables of another host (this project's own).
use Rattle.std.specs.Prelude.{List, Bool, true, not}
use Rattle.pb_language.specs.Expression.{Name, Root}
use Rattle.pb_others.specs.Others.{is_theirs}
use Rattle.pb_vars.specs.Reads.{Read, value_at, tested_at, alone, looked_for}

-- it doesn't hold of the root of what is read or tested
abbrev pub none_holds : (Root → Bool) → Read → Bool
none_holds q (value_at r ns) = not (q r)
none_holds q (tested_at r) = not (q r)
none_holds q (alone o) = true
none_holds q (looked_for t) = true

abbrev pub reads_not_theirs : List Name → Read → Bool
reads_not_theirs ns = none_holds (is_theirs ns)
