use Rattle.std.proofs.Common.{◌∙◌, ◌++◌, ◌∷◌, [], ap}
use Rattle.pb_inventory.proofs.Placed.{places-more}
use Rattle.pb_inventory.proofs.placing.all_places.Goals as goal

pub loop-place-preserved : goal.loop-place-preserved
loop-place-preserved c =
    let l = c.loop-place in
    c.in_ok-push.ensures.items ∙ ap (λ ps. ps ++ l.place ∷ []) l.invariant ∙ places-more l.place
