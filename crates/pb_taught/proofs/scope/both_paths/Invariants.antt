use Rattle.std.proofs.Common.{◌≡◌, ◌++◌, drop}
use Rattle.pb_language.specs.Scope.{both_present}
use Rattle.pb_syntax.specs.Aliases.{Trees}
use Rattle.pb_taught.specs.TaughtView.{presents_view}
use Rattle.pb_taught.proofs.scope.both_paths.Given as goal

abbrev pub invariant-loop-path : goal.invariant-loop-path
invariant-loop-path l = (f : Trees) →
    both_present (presents_view f l.few) (presents_view f l.many) ≡ presents_view f l.all.items ++ both_present (presents_view f (drop l.path-index l.few)) (presents_view f l.many)
