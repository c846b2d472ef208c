use Rattle.std.proofs.Common.{◌≡◌, ◌∷◌, sym, ap}
use Rattle.std.proofs.lemmas.Result.{IfOk-weaker}
use Rattle.pb_language.specs.Expansion.{expanded_root}
use Rattle.pb_language.specs.Narrow.{defined_at, teach, teach_present, there_spot}
use Rattle.pb_language.specs.Scope.{resolved}
use Rattle.pb_syntax.specs.ExprView.{names_of, root_view}
use Rattle.pb_taught.specs.TaughtView.{scope_view}
use Rattle.pb_expr.proofs.Untold.{present-kept, resolved-taught, shown-last, shown_at, with_present}
use Rattle.pb_expr.proofs.narrow.show.Goals as goal

pub returns : goal.returns
returns g c =
    let k = g.K.Known.before c.args.known.now in
    let d = scope_view k c.args.taught in
    let e = scope_view k c.in_ok-taught.taught in
    let r = expanded_root k.trees (root_view c.args.path.now.root) in
    let names = names_of c.args.path.now.steps.items in
    let p = shown_at (resolved k.scope r) names in
    let q = shown_at (resolved d r) names in
    let told = teach d (there_spot (defined_at names)) r in
    let same : p ≡ q = ap (λ s. shown_at s names) (sym (resolved-taught k c.args.taught r)) in
    IfOk-weaker c.add_shown.result (λ t. scope_view k t ≡ with_present (p ∷ e.present) e) (λ t. scope_view k t ≡ teach_present d r names)
    (λ t h. shown-last (scope_view k t) e told p q d.present h same c.in_ok-taught.ensures (present-kept d (there_spot (defined_at names)) r)) c.add_shown.ensures
