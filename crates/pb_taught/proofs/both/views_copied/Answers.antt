use Rattle.std.proofs.Common.{◌≡◌, List, [], sym, ap, ◌∙◌}
use Rattle.pb_taught.specs.TaughtView.{views_view}
use Rattle.pb_taught.proofs.Seen.{ViewEntry, copied_onto, views-copied}
use Rattle.pb_taught.proofs.both.views_copied.Goals as goal

pub returns : goal.returns
returns c =
    let l = c.loop-host in
    let left : l.host-iterator ≡ [] = c.in-None.ensures.steps.0 in
    sym (l.invariant ∙ ap (λ (es : List ViewEntry). copied_onto es (views_view l.all.entries)) left)
    ∙ views-copied c.args.views.now.entries c.iter-host-items.ensures.unique
