use Rattle.std.proofs.Common.{◌≡◌, string_bytes, ap, subst, ◌∙◌}
use Rattle.std.specs.Result.{OnOk}
use Rattle.pb_semantics.specs.Kind.{no_slots}
use Rattle.pb_language.specs.Scope.{put_view, view_of, with_slot}
use Rattle.pb_kind.specs.KindView.{is_always, kind_view, slots_view}
use Rattle.pb_taught.specs.TaughtView.{views_view}
use Rattle.pb_taught.proofs.Seen.{put-twice}
use Rattle.pb_taught.proofs.views.teach_view.Goals as goal

pub returns : goal.returns
returns c =
    let g = c.args.host.now in
    let vs = views_view c.args.views.now.entries in
    let a = is_always c.args.slot.presence in
    let k = kind_view c.args.slot.kind in
    let placed = slots_view c.place_slot.new.slots.entries in
    let left = views_view c.take_slots.new.views.entries in
    let new = with_slot c.args.name.now a k (view_of g vs) in
    let key : string_bytes c.in_ok-key.key ≡ g = c.in_ok-key.ensures.ok in
    let copy : string_bytes c.in_ok-clone.field-0 ≡ g = c.in_ok-clone.ensures.cases ∙ key in
    let now : placed ≡ new =
    c.in_ok-place_slot.ensures ∙ ap (with_slot c.args.name.now a k) (c.in_ok-slots.ensures.taken ∙ ap (λ n. view_of n vs) copy) in
    let rest : left ≡ put_view g no_slots vs = c.in_ok-slots.ensures.left ∙ ap (λ n. put_view n no_slots vs) copy in
    subst (λ us. OnOk c.put_slots.result (views_view c.put_slots.new.views.entries ≡ us))
    (ap (λ n. put_view n placed left) key ∙ ap (λ ss. put_view g ss left) now ∙ ap (put_view g new) rest ∙ put-twice g new no_slots vs) c.put_slots.ensures
