use Rattle.std.proofs.Common.{List, sym, ap, ◌∙◌}
use Rattle.pb_kind.specs.KindView.{slots_view}
use Rattle.pb_semantics.specs.Grown.{all_sure, closed}
use Rattle.pb_kind.specs.Growing.{kinds_view}
use Rattle.pb_kind.proofs.KindLemmas.{SlotEntry}
use Rattle.pb_semantics.proofs.Ascents.{closed_same, ascend_sure}
use Rattle.pb_kind.proofs.GrowLemmas.{ascend_slots}
use Rattle.pb_kind.proofs.grow.all_kinds.Goals as goal

pub returns : goal.returns
returns c =
    let l = c.loop-name in
    let ss = slots_view c.args.slots.now.entries in
    sym (l.invariant ∙ ap (λ (es : List SlotEntry). closed (all_sure (slots_view es)) (kinds_view l.kinds.entries)) c.in-None.ensures.steps.0)
    ∙ closed_same (all_sure ss) (ascend_sure ss (ascend_slots c.args.slots.now.entries c.iter-name-items.ensures.ordered))
