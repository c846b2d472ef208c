use Rattle.std.proofs.Common.{refl}
use Rattle.pb_lattice.specs.Arena.{tree_at}
use Rattle.pb_lattice.proofs.TreeOrder.{first_joins, second_joins}
use Rattle.pb_lattice.proofs.tree.+join.Goals as goal

pub join_trees-returns-then-is_at_once_below-clause-joined : goal.join_trees-returns-then-is_at_once_below-clause-joined
join_trees-returns-then-is_at_once_below-clause-joined t c =
    let f = tree_at c.args.nodes.now in
    let well = c.if-is_at_once_below.ensures.well in
    record { within = c.requires.second; well = well.1; joins = second_joins (f c.args.first) (f c.args.second) c.requires.alike well.0 well.1 (c.if-is_at_once_below.ensures.below refl) }

pub join_trees-returns-then-is_at_once_below-2-clause-joined : goal.join_trees-returns-then-is_at_once_below-2-clause-joined
join_trees-returns-then-is_at_once_below-2-clause-joined t c =
    let f = tree_at c.args.nodes.now in
    let well = c.if-is_at_once_below-2.ensures.well in
    record { within = c.requires.first; well = well.1; joins = first_joins (f c.args.first) (f c.args.second) c.requires.alike well.1 well.0 (c.if-is_at_once_below-2.ensures.below refl) }
