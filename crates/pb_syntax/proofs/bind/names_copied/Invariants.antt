use Rattle.std.proofs.Common.{◌≡◌, ◌++◌, drop}
use Rattle.pb_syntax.specs.ExprView.{names_of}
use Rattle.pb_syntax.proofs.bind.names_copied.Given as goal

abbrev pub invariant-loop-name : goal.invariant-loop-name
invariant-loop-name l = names_of l.names ≡ names_of l.all.items ++ names_of (drop l.name-index l.names)
