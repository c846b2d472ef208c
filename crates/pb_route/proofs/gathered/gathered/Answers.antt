use Rattle.std.proofs.Common.{◌≡◌, ◌∙◌, ◌&&◌, ap, sym, String, Global}
use Rattle.std.proofs.lemmas.Result.{IfOk-weaker}
use Rattle.std.specs.declared.collections.btree_map.BTreeMap.{BTreeMap}
use Rattle.pb_semantics.specs.Kind.{recs}
use Rattle.pb_kind.specs.Found.{spot_view}
use Rattle.pb_kind.specs.KindView.{is_always, kind_view, slots_view}
use Rattle.pb_kind.specs.declared.kind.Kind.{Kind}
use Rattle.pb_kind.specs.declared.kind.Slot.{Slot}
use Rattle.pb_value.specs.declared.weight.Weighed.{Weighed}
use Rattle.pb_kind.proofs.Views.{kind_view-Rec}
use Rattle.pb_route.proofs.Facts.{both_hold, gathered_record, none_holds}
use Rattle.pb_route.proofs.gathered.gathered.Goals as goal
use Rattle.pb_route.proofs.gathered.gathered.Goals.{then-is_certain, else-is_certain}

pub returns-after-is_certain : goal.returns-after-is_certain
returns-after-is_certain c =
    let slot = c.in-Some.slot.now in
    let a = c.args.is_certain in
    let b = c.if-is_certain.record_gathered in
    let p = is_always slot.presence in
    let facts = c.deref-in-Rec.result.now in
    let certain : b ≡ a && p = elim c.if-is_certain.branch [
      | then-is_certain w ↦ both_hold a b p w.if-is_certain.true (w.record_gathered-is ∙ w.is_always.ensures)
      | else-is_certain w ↦ none_holds a b p w.if-is_certain.false w.record_gathered-is
    ] in
    let shape : kind_view slot.kind ≡ recs (slots_view facts.entries) =
    ap kind_view c.in-Rec.is ∙ kind_view-Rec c.in-Rec.facts
    ∙ sym (ap (λ (m : BTreeMap (String Global) (Slot Kind) Global). recs (slots_view m.entries)) (c.deref-in-Rec.ensures ∙ ap (λ (w : Weighed (BTreeMap (String Global) (Slot Kind) Global)). w.parts) c.deref.ensures)) in
    IfOk-weaker c.record_gathered.result _ _
    (λ v is. is ∙ gathered_record a b p (kind_view slot.kind) (slots_view facts.entries) (spot_view c.args.slot) certain shape (ap spot_view c.in-Some.is)) c.record_gathered.ensures
