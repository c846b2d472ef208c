use Rattle.std.proofs.Common.{◌≡◌, Some, None, get_or, sym, ap, ◌∙◌, subst}
use Rattle.pb_semantics.specs.Kind.{slot_at}
use Rattle.pb_kind.specs.Found.{spot_view}
use Rattle.pb_kind.specs.KindView.{slots_view}
use Rattle.pb_verify.specs.Known.{HasTable, known_spot}
use Rattle.pb_verify.specs.declared.checked.Accepted.{Accepted}
use Rattle.pb_verify.proofs.KnownTables.{known_above, known_below, known_found, known_nowhere}
use Rattle.pb_verify.proofs.checked.Checked.view.Goals as goal

pub returns-in-Some : goal.returns-in-Some
returns-in-Some c =
    let a = c.args.self.now in
    let n = c.args.name.now in
    let m = c.index-known.result.now in
    let at = subst (λ (x : Accepted). m ≡ get_or x.views.items c.args.host m) c.self.view_is c.index-known.ensures in
    let table = subst HasTable c.self.view_is c.self.invariant.table in
    let found : spot_view (Some c.in-Some.slot) ≡ slot_at n (slots_view m.value.entries) = ap spot_view (sym c.in-Some.is) ∙ c.find.ensures ∙ ap (λ k. slot_at n (slots_view k.entries)) c.deref.ensures in
    known_found c.in-Some.slot.now (slot_at n (slots_view m.value.entries)) (known_spot a c.args.host n) found (known_below a table c.args.host n m c.requires at) (known_above a table c.args.host n m c.requires at)

pub returns-in-None : goal.returns-in-None
returns-in-None c =
    let a = c.args.self.now in
    let n = c.args.name.now in
    let m = c.index-known.result.now in
    let at = subst (λ (x : Accepted). m ≡ get_or x.views.items c.args.host m) c.self.view_is c.index-known.ensures in
    let table = subst HasTable c.self.view_is c.self.invariant.table in
    let found : spot_view None ≡ slot_at n (slots_view m.value.entries) = ap spot_view (sym c.in-None.is) ∙ c.find.ensures ∙ ap (λ k. slot_at n (slots_view k.entries)) c.deref.ensures in
    known_nowhere (slot_at n (slots_view m.value.entries)) (known_spot a c.args.host n) found (known_below a table c.args.host n m c.requires at) (known_above a table c.args.host n m c.requires at)
