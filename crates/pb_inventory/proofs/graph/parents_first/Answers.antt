-- taking the next node keeps the invariant, whose end is an order or a cycle
use Rattle.std.proofs.Common.{◌≡◌, ℕ, ◌+◌, ◌<◌, ◌++◌, List, Vec, Global, length, drop, get_or, map, take, sym, ap, ◌∙◌, subst, arith}
use Rattle.std.proofs.lemmas.List.{get_or_read, length-map, take_at}
use Rattle.pb_inventory.specs.Graph.{children_at}
use Rattle.pb_inventory.specs.Orders.{IsQueue, times}
use Rattle.pb_inventory.proofs.Members.{children-of, nodes-of}
use Rattle.pb_inventory.proofs.Taking.{IsTaking, taking-begins, taking-cycle, taking-enough, taking-fewer, taking-more, taking-order}
use Rattle.pb_inventory.proofs.graph.parents_first.Goals as goal

abbrev lists_of : List (Vec ℕ Global) → List (List ℕ)
lists_of children = map (λ v. v.items) children

-- the next node and the list of its children, as the code reads them
node-within : (children : List (Vec ℕ Global)) (counts order : List ℕ) (t node : ℕ) → IsTaking (lists_of children) counts order t → t < length order → node ≡ get_or order t node → node < length children
node-within children counts order t node s lt at =
    omega (arith, length-map children (λ (v : Vec ℕ Global). v.items), s.few, s.queue.within t lt, get_or_read order t node lt at 0)

node-list : (children : List (Vec ℕ Global)) (counts order : List ℕ) (t node : ℕ) (v : Vec ℕ Global) (ds : List ℕ) → IsTaking (lists_of children) counts order t → t < length order
    → node ≡ get_or order t node → v ≡ get_or children node v → ds ≡ v.items → children_at (lists_of children) (get_or order t 0) ≡ ds
node-list children counts order t node v ds s lt at read list =
    ap (children_at (lists_of children)) (sym (get_or_read order t node lt at 0))
    ∙ children-of (λ (v : Vec ℕ Global). v.items) children node v (node-within children counts order t node s lt at) read ∙ sym list

pub loop-taken-init : goal.loop-taken-init
loop-taken-init c =
    let size = length-map c.args.children.now (λ (v : Vec ℕ Global). v.items) in
    let queue = subst (λ ns. IsQueue ns c.in_ok-order.order.items) c.as_slice.ensures.value c.in_ok-order.ensures.queue in
    taking-begins (lists_of c.args.children.now) c.in_ok-counts.counts.items c.in_ok-order.order.items (omega (arith, size, c.in_ok-counts.ensures.len, c.in_ok-counts.counts.ok.0)) queue
    (λ n lt. c.in_ok-counts.ensures.counted n (omega (arith, lt, size)))

pub offset_bounds-children-node : goal.offset_bounds-children-node
offset_bounds-children-node c =
    let inside = node-within c.args.children.now c.loop-taken.counts.items c.loop-taken.order.items c.loop-taken.taken c.index-node.result.now c.loop-taken.invariant (omega (arith, c.loop-taken.order.ok.0)) c.index-node.ensures in
    omega (arith, inside)

pub bounds-children-node : goal.bounds-children-node
bounds-children-node c =
    node-within c.args.children.now c.loop-taken.counts.items c.loop-taken.order.items c.loop-taken.taken c.index-node.result.now c.loop-taken.invariant (omega (arith, c.loop-taken.order.ok.0)) c.index-node.ensures

pub lower_counts-requires-clause-nodes : goal.lower_counts-requires-clause-nodes
lower_counts-requires-clause-nodes c = λ k inside.
    let cs = lists_of c.args.children.now in
    let s = c.loop-taken.invariant in
    let lt : c.loop-taken.taken < length c.loop-taken.order.items = omega (arith, c.loop-taken.order.ok.0) in
    let here = node-list c.args.children.now c.loop-taken.counts.items c.loop-taken.order.items c.loop-taken.taken c.index-node.result.now c.index-children-node.result c.as_slice-in-loop-taken.result.now s lt
    c.index-node.ensures c.index-children-node.is c.as_slice-in-loop-taken.ensures.value in
    omega (arith, nodes-of cs c.requires.graph (get_or c.loop-taken.order.items c.loop-taken.taken 0) c.as_slice-in-loop-taken.result.now here k inside, s.few, c.as_mut_slice.ensures.len, c.loop-taken.counts.ok.0)

pub lower_counts-requires-clause-enough : goal.lower_counts-requires-clause-enough
lower_counts-requires-clause-enough c = λ n inside.
    let cs = lists_of c.args.children.now in
    let s = c.loop-taken.invariant in
    let lt : c.loop-taken.taken < length c.loop-taken.order.items = omega (arith, c.loop-taken.order.ok.0) in
    let here = node-list c.args.children.now c.loop-taken.counts.items c.loop-taken.order.items c.loop-taken.taken c.index-node.result.now c.index-children-node.result c.as_slice-in-loop-taken.result.now s lt
    c.index-node.ensures c.index-children-node.is c.as_slice-in-loop-taken.ensures.value in
    let enough = taking-enough cs c.loop-taken.counts.items c.loop-taken.order.items c.loop-taken.taken s lt n (omega (arith, inside, c.as_mut_slice.ensures.len, c.loop-taken.counts.ok.0)) in
    omega (arith, enough, ap (times n) here, ap (λ ns. get_or ns n 0) c.as_mut_slice.ensures.value)

pub loop-taken-smaller : goal.loop-taken-smaller
loop-taken-smaller c =
    let lt : c.loop-taken.taken < length c.loop-taken.order.items = omega (arith, c.loop-taken.order.ok.0) in
    let kept = subst (λ n. take n c.lower_counts.new.queue.items ≡ c.loop-taken.order.items) c.loop-taken.order.ok.0 c.in_ok-lower_counts.ensures.kept in
    taking-fewer (lists_of c.args.children.now) c.loop-taken.counts.items c.loop-taken.order.items c.loop-taken.taken c.loop-taken.invariant lt c.lower_counts.new.counts c.lower_counts.new.queue.items kept

pub loop-taken-preserved : goal.loop-taken-preserved
loop-taken-preserved c =
    let cs = lists_of c.args.children.now in
    let old = c.loop-taken.counts.items in
    let new = c.lower_counts.new.counts in
    let s = c.loop-taken.invariant in
    let lt : c.loop-taken.taken < length c.loop-taken.order.items = omega (arith, c.loop-taken.order.ok.0) in
    let kept = subst (λ n. take n c.lower_counts.new.queue.items ≡ c.loop-taken.order.items) c.loop-taken.order.ok.0 c.in_ok-lower_counts.ensures.kept in
    let here = node-list c.args.children.now old c.loop-taken.order.items c.loop-taken.taken c.index-node.result.now c.index-children-node.result c.as_slice-in-loop-taken.result.now s lt
    c.index-node.ensures c.index-children-node.is c.as_slice-in-loop-taken.ensures.value in
    let lowered : (n : ℕ) → n < length old → get_or new n 0 + times n (children_at cs (get_or c.loop-taken.order.items c.loop-taken.taken 0)) ≡ get_or old n 0 = λ n inside.
    omega (arith, c.in_ok-lower_counts.ensures.lowered n (omega (arith, inside, c.as_mut_slice.ensures.len, c.loop-taken.counts.ok.0)), ap (times n) here, ap (λ ns. get_or ns n 0) c.as_mut_slice.ensures.value) in
    let size : length new ≡ length old = omega (arith, c.as_mut_slice.ensures.len, c.loop-taken.counts.ok.0) in
    let written : take c.loop-taken.counts.len (new ++ drop (length new) old) ≡ new = take_at new (drop (length new) old) c.loop-taken.counts.len (omega (arith, size, c.loop-taken.counts.ok.0)) in
    let more = taking-more cs old c.loop-taken.order.items c.loop-taken.taken s lt new c.lower_counts.new.queue.items kept size c.in_ok-lower_counts.ensures.queue lowered in
    subst (λ ns. IsTaking cs ns c.lower_counts.new.queue.items (c.loop-taken.taken + 1)) (sym written) more

pub returns-then-is_all_zero : goal.returns-then-is_all_zero
returns-then-is_all_zero c =
    let none = subst (λ ns. (n : ℕ) → n < length ns → get_or ns n 0 ≡ 0) c.as_slice-2.ensures.value c.if-is_all_zero.ensures in
    record { order = taking-order (lists_of c.args.children.now) c.loop-taken.counts.items c.loop-taken.order.items c.loop-taken.taken c.requires.graph c.loop-taken.invariant (omega (arith, c.loop-taken.order.ok.0)) none }

pub returns : goal.returns
returns c =
    let some = subst (λ ns. (n : ℕ) × (n < length ns) × (get_or ns n 0 ≡ 0 → ⊥)) c.as_slice-2.ensures.value c.if-is_all_zero.ensures in
    record { order = taking-cycle (lists_of c.args.children.now) c.loop-taken.counts.items c.loop-taken.order.items c.loop-taken.taken c.loop-taken.invariant (omega (arith, c.loop-taken.order.ok.0)) some.0 some.1 some.2 }
