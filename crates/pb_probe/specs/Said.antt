-- The words for kinds and faults.
use Rattle.std.specs.Prelude.{ℕ, List, codes}
use Rattle.pb_semantics.specs.Kind.{KindData, never, nulls, booleans, ints, texts, hosts, lists}
use Rattle.pb_semantics.specs.Kind.{recs, results, anything}
use Rattle.pb_language.specs.Fit.{Fault, perhaps_undefined, perhaps_undefined_there}
use Rattle.pb_language.specs.Fit.{perhaps_missing, wrong_kind, unknown_name, unknown_handler}
use Rattle.pb_language.specs.Fit.{malformed}

-- the sort of a kind
abbrev pub sort_said : KindData → List ℕ
sort_said never = codes "never"
sort_said nulls = codes "null"
sort_said booleans = codes "bool"
sort_said ints = codes "int"
sort_said texts = codes "text"
sort_said (hosts ns) = codes "host"
sort_said (lists k n) = codes "list"
sort_said (recs ss) = codes "record"
sort_said (results cs k) = codes "result"
sort_said anything = codes "any"

-- the name of a fault; the last two are none of an expression's
abbrev pub fault_said : Fault → List ℕ
fault_said perhaps_undefined = codes "undefined"
fault_said perhaps_undefined_there = codes "undefined_there"
fault_said perhaps_missing = codes "missing_field"
fault_said wrong_kind = codes "wrong_kind"
fault_said unknown_name = codes "unknown_name"
fault_said unknown_handler = codes "unknown_handler"
fault_said malformed = codes "malformed"
