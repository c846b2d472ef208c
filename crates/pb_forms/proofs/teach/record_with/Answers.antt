use Rattle.std.proofs.Common.{string_bytes, ap, ◌∙◌}
use Rattle.std.proofs.lemmas.Result.{IfOk-weaker}
use Rattle.pb_semantics.specs.Kind.{recs}
use Rattle.pb_language.specs.Scope.{with_slot}
use Rattle.pb_language.proofs.Placed.{put-placed}
use Rattle.pb_kind.specs.KindView.{is_always, kind_view, slots_view}
use Rattle.pb_kind.proofs.GrowLemmas.{ascend_slots}
use Rattle.pb_kind.proofs.JoinLemmas.{slots_view-insert_entry}
use Rattle.pb_forms.proofs.teach.record_with.Goals as goal

pub returns : goal.returns
returns c =
    let es = c.in_ok-all.all.entries in
    let slot = c.args.slot in
    let key = c.in_ok-clone.field-0 in
    let a = is_always slot.presence in
    let k = kind_view slot.kind in
    let made = ap slots_view c.in_ok-insert.ensures.entries ∙ slots_view-insert_entry es key slot
    ∙ put-placed (string_bytes key) a k (slots_view es) (ascend_slots es c.in_ok-insert.ensures.was_ordered)
    ∙ ap (λ m. with_slot m a k (slots_view es)) c.in_ok-clone.ensures.cases
    ∙ ap (with_slot (string_bytes c.args.name.now) a k) c.in_ok-all.ensures in
    IfOk-weaker c.of_slots.result _ _ (λ k h. h ∙ ap recs made) c.of_slots.ensures
