use Rattle.std.proofs.Common.{ap, ◌∙◌}
use Rattle.pb_semantics.specs.Kind.{put_slot}
use Rattle.pb_semantics.proofs.Ascents.{once_of}
use Rattle.pb_kind.specs.KindView.{is_always, kind_view, slots_view}
use Rattle.pb_kind.proofs.GrowLemmas.{ascend_slots}
use Rattle.pb_kind.proofs.JoinLemmas.{slots_view-insert_entry}
use Rattle.pb_find.proofs.find.put.Goals as goal

pub returns-in_ok-insert-in-Some : goal.returns-in_ok-insert-in-Some
returns-in_ok-insert-in-Some c =
    let old = c.args.slots.now.entries in
    let new = c.insert.new.self.entries in
    let s = c.in-Some.slot in
    rw c.in-Some.is (
      ap slots_view c.in_ok-insert-in-Some.ensures.entries ∙ slots_view-insert_entry old c.in_ok-from_str-in-Some.field-0 s
          ∙ ap (λ n. put_slot n (is_always s.presence) (kind_view s.kind) (slots_view old)) c.in_ok-from_str-in-Some.ensures.ok,
      once_of (slots_view new) (ascend_slots new c.insert.ensures.ordered),
    )
