use Rattle.std.proofs.Common.{◌∷◌, ap, ◌∙◌}
use Rattle.pb_language.specs.Expansion.{expanded_root}
use Rattle.pb_language.specs.Scope.{resolved}
use Rattle.pb_syntax.specs.ExprView.{names_of, root_view}
use Rattle.pb_taught.specs.TaughtView.{present_view, presents_view, scope_view}
use Rattle.pb_taught.proofs.NamedRoots.{resolved-expanded}
use Rattle.pb_expr.proofs.Untold.{shown_at, with_present}
use Rattle.pb_expr.proofs.narrow.add_shown.Goals as goal

pub returns : goal.returns
returns g c =
    let k = g.K.Known.before c.args.known.now in
    let f = k.trees in
    let root = root_view c.args.path.now.root in
    let made = c.in_ok-shown_path.field-0 in
    let new = ap (present_view f) c.in_ok-shown.ensures.ok
    ∙ ap (λ q. shown_at (expanded_root f q) (names_of made.steps.items)) c.in_ok-shown_path.ensures.root
    ∙ ap (λ q. shown_at q (names_of made.steps.items)) (resolved-expanded k.scope f root)
    ∙ ap (shown_at (resolved k.scope (expanded_root f root))) c.in_ok-shown_path.ensures.steps in
    ap (λ ps. with_present ps (scope_view k c.args.taught)) (ap (presents_view f) c.in_ok-insert.ensures.items
    ∙ ap (λ p. p ∷ presents_view f c.args.taught.paths.items) new)
