use Rattle.std.proofs.Common.{◌≡◌, ◌∙◌, ap, sym, String, Global}
use Rattle.std.proofs.lemmas.Result.{IfOk-weaker}
use Rattle.std.specs.declared.collections.btree_map.BTreeMap.{BTreeMap}
use Rattle.pb_semantics.specs.Kind.{recs}
use Rattle.pb_kind.specs.Found.{spot_view}
use Rattle.pb_kind.specs.KindView.{kind_view, slots_view}
use Rattle.pb_kind.specs.declared.kind.Kind.{Kind}
use Rattle.pb_kind.specs.declared.kind.Slot.{Slot}
use Rattle.pb_value.specs.declared.weight.Weighed.{Weighed}
use Rattle.pb_kind.proofs.Views.{kind_view-Rec}
use Rattle.pb_sig.specs.ModuleView.{known_view}
use Rattle.pb_transfer.specs.Written.{sets_view}
use Rattle.pb_route.proofs.Facts.{gathered_by}
use Rattle.pb_route.proofs.gathered.module_facts.Goals as goal

pub returns-in-Rec : goal.returns-in-Rec
returns-in-Rec c =
    let k = kind_view c.ok_shape.result.now in
    let fields = c.deref-in-Rec.result.now in
    let shape : k ≡ recs (slots_view fields.entries) =
    ap kind_view c.in-Rec.is ∙ kind_view-Rec c.in-Rec.fields
    ∙ sym (ap (λ (m : BTreeMap (String Global) (Slot Kind) Global). recs (slots_view m.entries)) (c.deref-in-Rec.ensures ∙ ap (λ (w : Weighed (BTreeMap (String Global) (Slot Kind) Global)). w.parts) c.deref.ensures)) in
    IfOk-weaker c.gathered.result _ _
    (λ v is. gathered_by (known_view c.args.called.now) c.args.is_certain k (slots_view fields.entries) (spot_view c.find.result) (sets_view v.items)
    (sym c.gathers_facts.ensures ∙ c.if-not-gathers_facts.false) c.ok_shape.ensures.gives c.ok_shape.ensures.plain shape c.find.ensures is) c.gathered.ensures
