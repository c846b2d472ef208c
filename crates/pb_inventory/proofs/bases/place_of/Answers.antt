use Rattle.std.proofs.Common.{length, refl, sym, ◌∙◌}
use Rattle.std.proofs.lemmas.Bool.{ltb-true}
use Rattle.std.proofs.lemmas.Option.{slice_get_read}
use Rattle.pb_inventory.proofs.Based.{same-numbers}
use Rattle.pb_inventory.proofs.bases.place_of.Goals as goal

pub returns-then-eq : goal.returns-then-eq
returns-then-eq c =
    let bs = c.args.bases.now in
    let p = c.in_ok-place.field-0.now in
    let b = c.in_ok-base.base.now in
    let found = c.in_ok-base.ensures.lookup in
    (b, slice_get_read bs (length bs) p b refl (ltb-true p (length bs) (sym found.0)) found.1, same-numbers b.groups.items c.args.groups.now.items (sym c.eq.ensures ∙ c.if-eq.true))
