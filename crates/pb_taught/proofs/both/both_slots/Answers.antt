use Rattle.std.proofs.Common.{◌≡◌, List, [], sym, ap, ◌∙◌}
use Rattle.pb_kind.specs.KindView.{slots_view}
use Rattle.pb_kind.proofs.GrowLemmas.{ascend_slots}
use Rattle.pb_kind.proofs.KindLemmas.{SlotEntry}
use Rattle.pb_taught.proofs.BothTaught.{met_onto, met-both}
use Rattle.pb_taught.proofs.both.both_slots.Goals as goal

pub returns : goal.returns
returns c =
    let l = c.loop-name in
    let ts = slots_view c.args.other.now.entries in
    let left : l.name-iterator ≡ [] = c.in-None.ensures.steps.0 in
    sym (l.invariant ∙ ap (λ (es : List SlotEntry). met_onto (slots_view es) ts (slots_view l.all.entries)) left)
    ∙ met-both (slots_view c.args.one.now.entries) ts (ascend_slots c.args.one.now.entries c.iter-name-items.ensures.ordered)
