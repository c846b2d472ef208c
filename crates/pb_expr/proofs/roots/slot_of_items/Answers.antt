use Rattle.std.proofs.Common.{map, string_bytes, sym, ap, ◌∙◌}
use Rattle.std.proofs.lemmas.Result.{IfOk-weaker}
use Rattle.pb_semantics.specs.Kind.{hosts, spot}
use Rattle.pb_language.specs.Scope.{each_spot, hosts_at, spot_among, unnamed}
use Rattle.pb_kind.specs.Found.{spot_view}
use Rattle.pb_kind.specs.KindView.{is_always, kind_view}
use Rattle.pb_kind.proofs.KindLemmas.{kind_view-Host}
use Rattle.pb_taught.specs.TaughtView.{scope_view}
use Rattle.pb_expr.proofs.Untold.{each-untold}
use Rattle.pb_expr.proofs.roots.slot_of_items.Goals as goal

pub returns-in-Host : goal.returns-in-Host
returns-in-Host g c =
    let k = g.K.Known.before c.args.known.now in
    let t = c.args.taught.now in
    let d = scope_view k t in
    let on = t.item_active in
    let x = c.args.name.now in
    let keys = map (λ n. string_bytes n) c.deref.result.now.keys in
    let a = is_always c.in-Some.item.now.presence in
    let item = ap (λ m. spot a (hosts (map (λ n. string_bytes n) m.keys))) c.deref.ensures ∙ ap (spot a) (sym (kind_view-Host c.in-Host.hosts))
    ∙ ap (λ q. spot a (kind_view q)) (sym c.in-Host.is) ∙ ap spot_view (sym c.in-Some.is) ∙ c.own_slot.ensures in
    IfOk-weaker c.each_slot.result _ _
    (λ s h. h ∙ ap (λ z. each_spot z on x keys) (c.nothing-nothing.ensures k) ∙ each-untold k t on x keys ∙ ap (λ s. spot_among (unnamed d) on x (hosts_at s)) item) c.each_slot.ensures
