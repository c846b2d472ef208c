use Rattle.std.proofs.Common.{◌≡◌, ◌∙◌, Some, ap, length, slice_get, sym}
use Rattle.std.proofs.lemmas.Bool.{eqb-true}
use Rattle.pb_language.specs.Kinds.{known_slots}
use Rattle.pb_language.specs.Program.{memberships_of}
use Rattle.pb_inventory.specs.Inventory.{inventory_view}
use Rattle.pb_tables.proofs.Playing.{same_known, so_many_groups}
use Rattle.pb_tables.proofs.looks.look_alike.Goals as goal
use Rattle.pb_tables.proofs.looks.look_alike.Goals.{then-group_names, else-group_names}

pub returns-then-first_of : goal.returns-then-first_of
returns-then-first_of c = λ fine ps x y scenes a b.
    let stage = c.args.stage.now in
    let i = inventory_view stage.inventory.now in
    let alike : (known_slots x.variables ≡ known_slots y.variables) × (length (memberships_of x.name i.groups) ≡ length (memberships_of y.name i.groups)) = elim c.if-group_names.branch [
      | then-group_names w ↦
          let first : w.first_of.result ≡ w.first_of-then-group_names.result = eqb-true w.first_of.result w.first_of-then-group_names.result (sym w.value-is ∙ c.if-first_of.true) in (
            same_known stage c.args.one c.args.other w.first_of.result x y w.first_of.ensures (w.first_of-then-group_names.ensures ∙ ap Some (sym first)) a b,
            so_many_groups i (slice_get i.hosts c.args.one) x c.group_names.result.now c.group_names.ensures a ∙ w.if-group_names.true
                ∙ sym (so_many_groups i (slice_get i.hosts c.args.other) y c.group_names-2.result.now c.group_names-2.ensures b),
          )
      | else-group_names w ↦ absurd (w.if-group_names.false (eqb-true (length c.group_names.result.now) (length c.group_names-2.result.now) (sym w.value-is ∙ c.if-first_of.true)))
    ] in
    record { known = alike.0; memberships = alike.1; plays = c.are_in_same_plays.ensures fine ps x y scenes a b }
