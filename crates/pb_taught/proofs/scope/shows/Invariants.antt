use Rattle.std.proofs.Common.{◌≡◌, drop}
use Rattle.pb_language.specs.Expansion.{expanded_root}
use Rattle.pb_language.specs.Scope.{is_present_path}
use Rattle.pb_syntax.specs.ExprView.{names_of, root_view}
use Rattle.pb_syntax.specs.Aliases.{Trees}
use Rattle.pb_taught.specs.TaughtView.{presents_view}
use Rattle.pb_taught.proofs.scope.shows.Given as goal

abbrev pub invariant-loop-shown : goal.invariant-loop-shown
invariant-loop-shown l = (f : Trees) →
    is_present_path (expanded_root f (root_view l.path.root)) (names_of l.path.steps.items) (presents_view f l.paths)
    ≡ is_present_path (expanded_root f (root_view l.path.root)) (names_of l.path.steps.items) (presents_view f (drop l.shown-index l.paths))
