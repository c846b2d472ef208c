use Rattle.std.proofs.Common.{◌∷◌, sym, ap, ◌∙◌}
use Rattle.std.proofs.lemmas.Result.{IfOk-weaker}
use Rattle.pb_language.specs.Narrow.{active_member, teach_active}
use Rattle.pb_language.specs.World.{member_of}
use Rattle.pb_syntax.specs.ExprView.{term_view}
use Rattle.pb_taught.specs.TaughtView.{scope_view}
use Rattle.pb_expr.proofs.narrow.show_active.Goals as goal

pub returns-in-Named : goal.returns-in-Named
returns-in-Named g c =
    let k = g.K.Known.before c.args.known.now in
    let d = scope_view k c.args.taught in
    IfOk-weaker c.add_active.result _ _
    (λ t h. h k ∙ ap (λ n. record d { active = n ∷ d.active }) c.as_str.ensures.value ∙ ap (λ u. teach_active d (term_view u)) (sym c.in-Named.is)) c.add_active.ensures

pub returns-in-This : goal.returns-in-This
returns-in-This g c =
    let k = g.K.Known.before c.args.known.now in
    let d = scope_view k c.args.taught in
    IfOk-weaker c.add_active-in-This.result _ _
    (λ t h. h k ∙ ap (λ n. record d { active = n ∷ d.active }) c.this.ensures ∙ ap (λ u. teach_active d (term_view u)) (sym c.in-This.is)) c.add_active-in-This.ensures

pub returns-in-Some : goal.returns-in-Some
returns-in-Some g c =
    let k = g.K.Known.before c.args.known.now in
    let d = scope_view k c.args.taught in
    let named = c.in-Some.ensures ∙ ap (λ n. member_of n c.in-Member.member.place k.scope.groups) c.as_str-in-Member.ensures.value in
    IfOk-weaker c.add_active-in-Some.result _ _
    (λ t h. h k ∙ ap (active_member d) named ∙ ap (λ u. teach_active d (term_view u)) (sym c.in-Member.is)) c.add_active-in-Some.ensures
