use Rattle.std.proofs.Common.{◌≡◌, List, [], ◌∷◌, ◌++◌, Option, String, Global, refl, sym, ap, ◌∙◌}
use Rattle.pb_semantics.specs.Join.{join_spot}
use Rattle.pb_semantics.specs.Kind.{Spot}
use Rattle.pb_language.specs.Scope.{each_spot, host_spot}
use Rattle.pb_syntax.specs.ExprView.{names_of}
use Rattle.pb_kind.specs.declared.kind.Kind.{Kind}
use Rattle.pb_kind.specs.declared.kind.Slot.{Slot}
use Rattle.pb_taught.specs.Joined.{spots_onto}
use Rattle.pb_kind.specs.Found.{slot_given}
use Rattle.pb_taught.specs.TaughtView.{scope_view}
use Rattle.pb_taught.proofs.views.each_slot.Goals as goal

spots-last : (ss : List (Option (Slot Kind))) (s : Option (Slot Kind)) (t : Spot) → spots_onto (ss ++ s ∷ []) t ≡ spots_onto ss (join_spot (slot_given s) t)
spots-last [] s t = refl
spots-last (o ∷ ss) s t = ap (join_spot (slot_given o)) (spots-last ss s t)

pub loop-host-preserved : goal.loop-host-preserved
loop-host-preserved g c =
    let l = c.loop-host in
    let scope = scope_view (g.K.Known.before c.args.known.now) c.args.taught.now in
    let on = c.args.is_active in
    let x = c.args.name.now in
    let left = each_spot scope on x (names_of c.next.new.self) in
    l.invariant ∙ ap (λ (ns : List (String Global)). spots_onto l.slots.items (each_spot scope on x (names_of ns))) c.in-Some.ensures.steps
    ∙ ap (λ n. spots_onto l.slots.items (join_spot (host_spot scope on x n) left)) (sym c.as_str.ensures.value)
    ∙ ap (λ s. spots_onto l.slots.items (join_spot s left)) (sym c.in_ok-host_slot.ensures)
    ∙ sym (spots-last l.slots.items c.in_ok-host_slot.field-0 left)
    ∙ ap (λ (ss : List (Option (Slot Kind))). spots_onto ss left) (sym c.in_ok-push.ensures.items)
