use Rattle.std.proofs.Common.{◌≡◌, ◌++◌, drop}
use Rattle.pb_language.specs.Scope.{both_names}
use Rattle.pb_syntax.specs.ExprView.{names_of}
use Rattle.pb_taught.proofs.scope.both_names.Given as goal

abbrev pub invariant-loop-name : goal.invariant-loop-name
invariant-loop-name l =
    let all = names_of l.many in
    both_names (names_of l.few) all ≡ names_of l.all.items ++ both_names (names_of (drop l.name-index l.few)) all
