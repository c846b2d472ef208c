use Rattle.std.proofs.Common.{List, map, String, Global, string_bytes, sym, ap, ◌∙◌}
use Rattle.pb_kind.specs.KindView.{slots_view}
use Rattle.pb_semantics.specs.Grown.{marked, closed}
use Rattle.pb_kind.specs.Growing.{kinds_view}
use Rattle.pb_semantics.proofs.Ascents.{closed_same, ascend_marked}
use Rattle.pb_kind.proofs.GrowLemmas.{KindEntry, ascend_kinds}
use Rattle.pb_kind.proofs.grow.+close.Goals as goal

pub close_kinds-returns : goal.close_kinds-returns
close_kinds-returns t c =
    let l = c.loop-name in
    let ks = kinds_view c.args.kinds.now.entries in
    let names = map (λ (n : String Global). string_bytes n) c.args.certain.now.keys in
    sym (l.invariant ∙ ap (λ (es : List KindEntry). closed (marked (kinds_view es) names) (slots_view l.slots.entries)) c.in-None.ensures.steps.0)
    ∙ closed_same (marked ks names) (ascend_marked ks names (ascend_kinds c.args.kinds.now.entries c.iter-name-items.ensures.ordered))
