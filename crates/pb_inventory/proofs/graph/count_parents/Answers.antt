-- each child is a node, and one more list raises the counts by its children
use Rattle.std.proofs.Common.{◌≡◌, ◌+◌, ◌<◌, ◌++◌, ℕ, Vec, Global, length, drop, get_or, map, take, sym, ◌∙◌, subst, arith}
use Rattle.std.proofs.lemmas.List.{length-map, take_at}
use Rattle.pb_inventory.specs.Orders.{times}
use Rattle.pb_inventory.proofs.Members.{children-of, nodes-of}
use Rattle.pb_inventory.proofs.Queues.{counted-more}
use Rattle.pb_inventory.proofs.graph.count_parents.Goals as goal

pub raise_counts-requires-clause-nodes : goal.raise_counts-requires-clause-nodes
raise_counts-requires-clause-nodes c = λ k lt.
    let cs = map (λ (v : Vec ℕ Global). v.items) c.args.children.now in
    let here = children-of (λ (v : Vec ℕ Global). v.items) c.args.children.now c.loop-list.list-index c.list-item.result (omega arith) c.list-item.is ∙ sym c.as_slice.ensures.value in
    let node = nodes-of cs c.requires.graph c.loop-list.list-index c.as_slice.result.now here k lt in
    omega (arith, node, length-map c.args.children.now (λ (v : Vec ℕ Global). v.items), c.as_mut_slice.ensures.len, c.loop-list.invariant.0)

pub loop-list-preserved : goal.loop-list-preserved
loop-list-preserved c =
    let cs = map (λ (v : Vec ℕ Global). v.items) c.args.children.now in
    let old = c.loop-list.counts.items in
    let new = c.raise_counts.new.counts in
    let here = children-of (λ (v : Vec ℕ Global). v.items) c.args.children.now c.loop-list.list-index c.list-item.result (omega arith) c.list-item.is ∙ sym c.as_slice.ensures.value in
    let nodes = length-map c.args.children.now (λ (v : Vec ℕ Global). v.items) in
    let written : take c.loop-list.counts.len (new ++ drop (length new) old) ≡ new = take_at new (drop (length new) old) c.loop-list.counts.len (omega arith) in
    let raised = subst (λ ms. (n : ℕ) → n < length ms → get_or new n 0 ≡ get_or ms n 0 + times n c.as_slice.result.now) c.as_mut_slice.ensures.value c.raise_counts.ensures.raised in
    let more = counted-more cs old new c.as_slice.result.now c.loop-list.list-index (omega (arith, nodes)) (omega (arith, nodes, c.loop-list.invariant.0, c.loop-list.counts.ok.0)) (omega (arith, nodes, c.loop-list.invariant.0, c.as_mut_slice.ensures.len))
    here (omega (arith, c.as_slice.type_inv.0)) (λ n h. c.loop-list.invariant.1 n (omega (arith, h, nodes))) c.loop-list.invariant.2 raised in
    rw written (c.loop-list.invariant.0, (λ n h. more.0 n (omega (arith, h, nodes))), more.1)
