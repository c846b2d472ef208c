use Rattle.std.proofs.Common.{◌≡◌, List, [], sym, ap, ◌∙◌}
use Rattle.pb_taught.specs.TaughtView.{views_view}
use Rattle.pb_taught.proofs.Seen.{ViewEntry, views_onto, views-both}
use Rattle.pb_taught.proofs.both.both_views.Goals as goal

pub returns : goal.returns
returns c =
    let l = c.loop-host in
    let ws = views_view c.args.other.now.entries in
    let left : l.host-iterator ≡ [] = c.in-None.ensures.steps.0 in
    sym (l.invariant ∙ ap (λ (es : List ViewEntry). views_onto (views_view es) ws (views_view l.all.entries)) left)
    ∙ views-both c.args.one.now.entries ws c.iter-host-items.ensures.unique
