use Rattle.std.proofs.Common.{◌≡◌, ◌++◌, drop}
use Rattle.pb_syntax.specs.Aliases.{Trees}
use Rattle.pb_taught.specs.TaughtView.{presents_view}
use Rattle.pb_taught.proofs.scope.paths_copied.Given as goal

abbrev pub invariant-loop-path : goal.invariant-loop-path
invariant-loop-path l = (f : Trees) → presents_view f l.paths ≡ presents_view f l.all.items ++ presents_view f (drop l.path-index l.paths)
