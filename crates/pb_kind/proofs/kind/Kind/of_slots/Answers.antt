use Rattle.std.proofs.Common.{BTreeMap, String, Global, ap, ◌∙◌}
use Rattle.pb_semantics.specs.Kind.{recs}
use Rattle.pb_kind.specs.KindView.{slots_view}
use Rattle.pb_kind.specs.declared.kind.Kind.{Kind}
use Rattle.pb_kind.specs.declared.kind.Slot.{Slot}
use Rattle.pb_value.specs.declared.weight.Weighed.{Weighed}
use Rattle.pb_kind.proofs.Views.{kind_view-Rec}
use Rattle.pb_kind.proofs.kind.Kind.of_slots.Goals as goal

pub returns : goal.returns
returns c =
    kind_view-Rec c.in_ok-new.field-0
    ∙ ap (λ (w : Weighed (BTreeMap (String Global) (Slot Kind))). recs (slots_view w.parts.entries)) c.in_ok-new.ensures.ok
    ∙ ap (λ (m : BTreeMap (String Global) (Slot Kind)). recs (slots_view m.entries)) c.in_ok-weighed_slots.ensures.parts
