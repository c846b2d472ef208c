use Rattle.std.proofs.Common.{◌≡◌, drop}
use Rattle.pb_language.specs.Expansion.{expanded_root}
use Rattle.pb_language.specs.Scope.{is_present_path, resolved}
use Rattle.pb_syntax.specs.ExprView.{names_of, root_view}
use Rattle.pb_taught.specs.TaughtView.{presents_view}
use Rattle.pb_taught.proofs.scope.is_present.Given as goal

abbrev pub invariant-loop-shown : goal.invariant-loop-shown
invariant-loop-shown g l =
    let b = g.K.Known.before l.known in
    let shown = is_present_path (resolved b.scope (expanded_root b.trees (root_view l.path.root))) (names_of l.path.steps.items) in
    shown (presents_view b.trees l.taught.paths.items) ≡ shown (presents_view b.trees (drop l.shown-index l.taught.paths.items))
