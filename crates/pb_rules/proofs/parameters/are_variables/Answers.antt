use Rattle.std.proofs.Common.{◌≡◌, List, [], ◌∷◌, Bool, false, ◌==◌, length}
use Rattle.pb_language.specs.Rules.{can_be_set}
use Rattle.pb_template.specs.Entries.{entries_view}
use Rattle.pb_template.specs.declared.entry.Entry.{Entry}
use Rattle.pb_rules.specs.Parameters.{are_variables}
use Rattle.pb_rules.proofs.parameters.are_variables.Goals as goal

some_names : (q : Bool) (xs : List Entry) → false ≡ (length xs == 0) → q ≡ can_be_set (entries_view xs) → q ≡ are_variables (entries_view xs)
some_names q [] h e = (cc)
some_names q (x ∷ xs) h e = e

pub returns-then-not-is_empty : goal.returns-then-not-is_empty
returns-then-not-is_empty c = some_names c.can_be_set.result c.args.arguments.now c.if-not-is_empty.ensures c.can_be_set.ensures
