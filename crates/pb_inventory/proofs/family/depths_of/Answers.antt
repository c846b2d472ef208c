use Rattle.std.proofs.Common.{◌≡◌, ◌<◌, ◌+◌, get_or, length, replicate, set, sym, ap, subst, ◌∙◌, arith, ℕ, Vec, Global}
use Rattle.std.specs.Vec.{with_items}
use Rattle.std.proofs.lemmas.List.{get_or_read, length-map, with_items_is}
use Rattle.pb_inventory.specs.Families.{lists_of}
use Rattle.pb_inventory.specs.Graph.{children_at}
use Rattle.pb_inventory.proofs.Pushes.{IsPushed, depths-all_pushed, first_pushed, pushed-more, pushed-root}
use Rattle.pb_inventory.proofs.Rows.{row_read, row_within}
use Rattle.pb_inventory.proofs.family.depths_of.Goals as goal
use Rattle.pb_inventory.proofs.family.depths_of.Goals.{then-group-root, else-group-root}

pub deepen-requires : goal.deepen-requires
deepen-requires c =
    let l = c.loop-group in
    let vs = c.args.children.now in
    let g = get_or c.args.order.now l.group-index 0 in
    let size = length-map vs (λ v. v.items) in
    let within : g < length vs = omega (arith, c.requires.order.within l.group-index c.loop-group-test.true, size) in
    row_within (lists_of vs) g (length c.as_mut_slice.result.now) c.as_slice.result.now c.requires.graph
    (c.as_slice.ensures.value ∙ sym (row_read vs g c.index-children-group.result within c.index-children-group.is))
    (sym l.invariant.count ∙ sym (ap length c.as_mut_slice.ensures.value))

pub loop-group-preserved : goal.loop-group-preserved
loop-group-preserved c =
    let l = c.loop-group in
    let vs = c.args.children.now in
    let cs = lists_of vs in
    let order = c.args.order.now in
    let root = c.args.root in
    let d = l.depths.items in
    let g = get_or order l.group-index 0 in
    let within : g < length vs = omega (arith, c.requires.order.within l.group-index c.loop-group-test.true, length-map vs (λ v. v.items)) in
    let P : Vec ℕ Global → Type 0 = λ v. IsPushed root cs order (l.group-index + 1) v.items in
    elim c.if-group-root.branch [
      | then-group-root w ↦
          let ws = w.deepen.new.depths in
          let row : w.as_slice.result.now ≡ children_at cs g = w.as_slice.ensures.value ∙ sym (row_read vs g w.index-children-group.result within w.index-children-group.is) in
          let depth : w.index.result.now ≡ get_or d g 0 = get_or_read d g w.index.result.now (omega (arith, l.invariant.count, length-map vs (λ v. v.items))) w.index.ensures 0 in
          let at = rw (row, w.as_mut_slice.ensures.value, depth) at w.deepen.ensures in
          let count : length ws ≡ length d = w.deepen.auto.depths ∙ ap length w.as_mut_slice.ensures.value in
          let items : (with_items l.depths ws).items ≡ ws = with_items_is l.depths ws (w.deepen.auto.depths ∙ w.as_mut_slice.ensures.len) in
          subst P (sym w.depths-is) (rw items (pushed-more root cs order l.group-index d ws c.requires.order c.requires.root l.invariant c.loop-group-test.true w.if-group-root.true count at))
      | else-group-root w ↦ subst P (sym w.depths-is) (pushed-root root cs order l.group-index d l.invariant w.if-group-root.false)
    ]

pub loop-group-init : goal.loop-group-init
loop-group-init c =
    let vs = c.args.children.now in
    let cs = lists_of vs in
    let first : c.in_ok-depths.depths.items ≡ set (replicate (length cs) 1) c.args.root 0 =
    c.in_ok-depths.ensures ∙ ap (λ n. set (replicate n 1) c.args.root 0) (sym (length-map vs (λ v. v.items))) in
    rw first (first_pushed c.args.root cs c.args.order.now)

pub returns : goal.returns
returns c = depths-all_pushed _ _ _ _ _ c.requires.order c.loop-group.invariant c.loop-group-test.false
