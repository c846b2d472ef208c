use Rattle.std.proofs.Common.{string_bytes, ap, ◌∙◌}
use Rattle.pb_language.specs.Scope.{with_slot}
use Rattle.pb_kind.specs.KindView.{is_always, kind_view, slots_view}
use Rattle.pb_kind.proofs.GrowLemmas.{ascend_slots}
use Rattle.pb_kind.proofs.JoinLemmas.{slots_view-insert_entry}
use Rattle.pb_language.proofs.Placed.{put-placed}
use Rattle.pb_taught.proofs.views.place_slot.Goals as goal

pub returns : goal.returns
returns c =
    let es = c.args.slots.now.entries in
    let s = c.args.slot in
    let key = c.in_ok-name.name in
    let a = is_always s.presence in
    let k = kind_view s.kind in
    ap slots_view c.in_ok-insert.ensures.entries ∙ slots_view-insert_entry es key s
    ∙ put-placed (string_bytes key) a k (slots_view es) (ascend_slots es c.in_ok-insert.ensures.was_ordered)
    ∙ ap (λ n. with_slot n a k (slots_view es)) c.in_ok-name.ensures.ok
