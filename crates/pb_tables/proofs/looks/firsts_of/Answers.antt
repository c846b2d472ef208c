use Rattle.std.proofs.Common.{◌≡◌, ◌∙◌, ◌+◌, ◌∷◌, [], Some, length, slice_get, ap, sym, subst}
use Rattle.std.proofs.lemmas.List.{length-append}
use Rattle.pb_inventory.specs.Inventory.{inventory_view}
use Rattle.pb_tables.specs.Ends.{AreAlike}
use Rattle.pb_tables.proofs.Standing.{alike_more}
use Rattle.pb_tables.proofs.looks.firsts_of.Goals as goal

pub loop-host-preserved : goal.loop-host-preserved
loop-host-preserved c =
    let l = c.loop-host in
    let i = inventory_view c.args.stage.now.inventory.now in
    let first = c.first_like-first.result in
    record {
      count = ap length c.in_ok-push.ensures.items ∙ length-append l.firsts.items (first ∷ []) ∙ ap (λ n. n + 1) l.invariant.count;
      alike = λ ps scenes. subst (AreAlike i ps) (sym c.in_ok-push.ensures.items)
          (alike_more i ps l.firsts.items first (l.invariant.alike ps scenes)
          (λ x y a b. c.first_like-first.ensures ps x y scenes a (subst (λ n. slice_get i.hosts n ≡ Some y) l.invariant.count b)));
    }
