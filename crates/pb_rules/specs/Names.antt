-- The names in a set, and those that a task registers.
use Rattle.std.specs.Prelude.{ℕ, List, map}
use Rattle.std.specs.BTreeSet.{BTreeSet}
use Rattle.pb_language.specs.Book.{TaskData}
use Rattle.pb_language.specs.Expression.{Name}
use Rattle.pb_language.specs.Rules.{option_names}
use denote.Ref.{Bor}

abbrev pub names_in : BTreeSet (Bor (List ℕ)) → List Name
names_in ns = map (λ n. n.now) ns.keys

abbrev pub register_names : TaskData → List Name
register_names t = option_names t.register
