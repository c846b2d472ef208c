use Rattle.std.proofs.Common.{◌≡◌, ◌<◌, length, List, sym, ap, ◌∙◌, subst}
use Rattle.pb_lattice.specs.Arena.{are_parts_below, part_view, tree_at}
use Rattle.pb_lattice.specs.declared.tree.Node.{Node}
use Rattle.pb_lattice.proofs.Places.{level}
use Rattle.pb_lattice.proofs.tree.Nodes.part.Goals as goal

pub returns-clause-means : goal.returns-clause-means
returns-clause-means c =
    let ns = c.self.inside.nodes.items in
    let n = c.index-node.result.now in
    let within : c.args.place < length ns = rw c.self.view_is c.requires in
    let at = level ns c.args.place n within c.self.invariant.grounded in
    let here : tree_at ns c.args.place ≡ part_view (tree_at ns) n.part = at.0 ∙ ap (λ (m : Node). part_view (tree_at ns) m.part) (sym c.index-node.ensures) in
    subst (λ (ms : List Node). tree_at ms c.args.place ≡ part_view (tree_at ms) n.part) c.self.view_is here

pub returns-clause-below : goal.returns-clause-below
returns-clause-below c =
    let ns = c.self.inside.nodes.items in
    let n = c.index-node.result.now in
    let within : c.args.place < length ns = rw c.self.view_is c.requires in
    let at = level ns c.args.place n within c.self.invariant.grounded in
    ap (λ (m : Node). are_parts_below c.args.place m.part) c.index-node.ensures ∙ at.1
