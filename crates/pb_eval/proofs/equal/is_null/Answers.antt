use Rattle.std.proofs.Common.{rules}
use Rattle.pb_value.specs.declared.value.Value.{the_lemmas}
use Rattle.pb_eval.proofs.equal.is_null.Goals as goal

pub returns-in-Null : goal.returns-in-Null
returns-in-Null c = rw c.in-Null.is (search (rules, the_lemmas))
