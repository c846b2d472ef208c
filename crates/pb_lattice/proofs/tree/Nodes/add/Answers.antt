use Rattle.std.proofs.Common.{◌≡◌, length, List, [], ◌∷◌, ◌++◌, sym, ap, ◌∙◌, subst, arith}
use Rattle.pb_lattice.specs.Arena.{IsGrown, IsNew, IsTable, part_view, tree_at}
use Rattle.pb_lattice.specs.declared.tree.Node.{Node}
use Rattle.pb_lattice.proofs.Places.{table-push, grows, adds}
use Rattle.pb_lattice.proofs.tree.Nodes.add.Goals as goal

pub invariant_of-self-2 : goal.invariant_of-self-2
invariant_of-self-2 c =
    let ns = c.args.self.now in
    let n : Node = record { part = c.args.part; of = c.args.of } in
    let table : IsTable ns = subst IsTable c.self.view_is c.self.invariant in
    let all = c.push_reserved.ensures.items ∙ ap (λ (ms : List Node). ms ++ n ∷ []) (c.reserve.ensures.items ∙ c.self.view_is) in
    subst IsTable (sym all) (table-push ns n table c.requires.parts c.requires.before c.requires.well c.requires.made)

pub returns-clause-grown : goal.returns-clause-grown
returns-clause-grown c =
    let ns = c.args.self.now in
    let n : Node = record { part = c.args.part; of = c.args.of } in
    let table : IsTable ns = subst IsTable c.self.view_is c.self.invariant in
    let all = c.push_reserved.ensures.items ∙ ap (λ (ms : List Node). ms ++ n ∷ []) (c.reserve.ensures.items ∙ c.self.view_is) in
    subst (λ (ms : List Node). IsGrown ns ms) (sym all) (grows ns n table)

pub returns-clause-new : goal.returns-clause-new
returns-clause-new c =
    let ns = c.args.self.now in
    let n : Node = record { part = c.args.part; of = c.args.of } in
    let table : IsTable ns = subst IsTable c.self.view_is c.self.invariant in
    let all = c.push_reserved.ensures.items ∙ ap (λ (ms : List Node). ms ++ n ∷ []) (c.reserve.ensures.items ∙ c.self.view_is) in
    let size = ap length c.self.view_is in
    let held : c.in-Ok.place ≡ length c.self.inside.nodes.items = grind (arith) in
    let place : c.in-Ok.place ≡ length ns = held ∙ size in
    subst (λ (ms : List Node). IsNew (part_view (tree_at ns) n.part) ms c.in-Ok.place) (sym all) (rw place (adds ns n table c.requires.well))
