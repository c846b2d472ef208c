use Rattle.std.proofs.Common.{◌≡◌, true, string_bytes, sym, ap, ◌∙◌}
use Rattle.std.specs.Option.{option_copied}
use Rattle.pb_semantics.specs.Kind.{spot, slot_at, put_slot}
use Rattle.pb_semantics.specs.Join.{kind_with}
use Rattle.pb_semantics.specs.Grown.{met}
use Rattle.pb_kind.specs.KindView.{kind_view}
use Rattle.pb_kind.specs.Growing.{growing_view, kinds_view}
use Rattle.pb_kind.proofs.GrowLemmas.{found_in, found_at, ascend_kinds}
use Rattle.pb_kind.proofs.Adding.{put_there}
use Rattle.pb_kind.proofs.grow.has_above.Goals as goal

pub returns-in-Some : goal.returns-in-Some
returns-in-Some c = λ h.
    let b = c.args.leads in
    let es = c.args.kinds.now.entries in
    let us = kinds_view es in
    let name = string_bytes c.args.name.now in
    let kind = kind_view c.args.kind.now in
    let there = growing_view c.in-Some.there.now in
    let at : slot_at name us ≡ spot true there =
    sym (ap (λ n. slot_at n us) c.as_str.ensures.value) ∙ sym (found_at c.as_str.result.now es) ∙ ap found_in (sym c.get.ensures.value) ∙ ap (λ o. found_in (option_copied o)) c.in-Some.is in
    ap (λ s. put_slot name true (kind_with kind (λ m. met b kind m) s) us) at
    ∙ ap (λ k. put_slot name true k us) (c.is_unchanged.ensures h) ∙ put_there name true there us (ascend_kinds es c.len.ensures.ordered) at
