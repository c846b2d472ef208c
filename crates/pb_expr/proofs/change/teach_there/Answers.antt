use Rattle.std.proofs.Common.{Bool, List, ℕ, cond, string_bytes, false, ap, ◌∙◌}
use Rattle.std.proofs.lemmas.Result.{IfOk-weaker}
use Rattle.pb_semantics.specs.Kind.{KindData}
use Rattle.pb_language.specs.Scope.{Scope, has_view, host_spot, is_certain, put_view, spot_kind, view_of, with_slot}
use Rattle.pb_kind.specs.KindView.{is_always, kind_view}
use Rattle.pb_syntax.specs.ExprView.{names_of}
use Rattle.pb_expr.specs.ChangeView.{change_view}
use Rattle.pb_kind.specs.Found.{slot_given}
use Rattle.pb_taught.specs.TaughtView.{scope_view}
use Rattle.pb_expr.proofs.change.teach_there.Goals as goal

abbrev taught_there : Scope → List ℕ → List ℕ → Bool → KindData → Scope
taught_there d h n a m = cond (has_view h d.table) (record d { views = put_view h (with_slot n a m (view_of h d.views)) d.views }) d

pub returns : goal.returns
returns g c =
    let k = g.K.Known.before c.args.known.now in
    let d = scope_view k c.args.taught in
    let h = c.args.host.now in
    let x = string_bytes c.args.name.now in
    let names = names_of c.args.path.now.steps.items in
    let slot = c.in_ok-slot-2.slot in
    let s = change_view c.args.change names (host_spot d false x h) in
    let same = ap (λ ns. change_view c.args.change (names_of ns) (slot_given c.in_ok-slot.slot)) c.deref.ensures
    ∙ ap (change_view c.args.change names) (c.in_ok-slot.ensures ∙ ap (λ n. host_spot d false n h) c.as_str.ensures.value) in
    IfOk-weaker c.teach_host.result _ _
    (λ t i. i ∙ ap (λ n. taught_there d h n (is_always slot.presence) (kind_view slot.kind)) c.as_str-2.ensures.value
    ∙ ap (λ a. taught_there d h x a (kind_view slot.kind)) (c.in_ok-slot-2.ensures.certain ∙ ap is_certain same)
    ∙ ap (λ m. taught_there d h x (is_certain s) m) (c.in_ok-slot-2.ensures.kind ∙ ap spot_kind same)) c.teach_host.ensures
