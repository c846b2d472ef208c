use Rattle.std.proofs.Common.{◌<◌, length, List, subst}
use Rattle.pb_lattice.specs.Trees.{WellTree}
use Rattle.pb_lattice.specs.Arena.{tree_at}
use Rattle.pb_lattice.specs.declared.tree.Node.{Node}
use Rattle.pb_lattice.proofs.TreeOrder.{tree_own}
use Rattle.pb_lattice.proofs.tree.Nodes.is_at_once_below.Goals as goal

pub returns-then-low-high-clause-below : goal.returns-then-low-high-clause-below
returns-then-low-high-clause-below c = λ _.
    let ns = c.self.inside.nodes.items in
    let within : c.args.high < length ns = rw c.self.view_is c.requires.high in
    let own : WellTree (tree_at c.args.self.now c.args.high) = subst (λ (ms : List Node). WellTree (tree_at ms c.args.high)) c.self.view_is (c.self.invariant.well c.args.high within) in
    rw c.if-low-high.true (tree_own (tree_at c.args.self.now c.args.high) own)
