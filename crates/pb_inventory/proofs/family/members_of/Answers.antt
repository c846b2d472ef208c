use Rattle.std.proofs.Common.{◌≡◌, ◌<◌, ◌≤◌, ◌-◌, [], ap, sym, ◌∙◌, get_or, length, arith, ℕ, subst, List}
use Rattle.std.specs.List.{All}
use Rattle.std.specs.Vec.{with_items}
use Rattle.std.proofs.lemmas.List.{length-map, length-replicate, length-set, with_items_is}
use Rattle.std.proofs.lemmas.List.Elements.{All-replicate, All-set}
use Rattle.pb_inventory.specs.Graph.{children_at}
use Rattle.pb_inventory.specs.Families.{lists_of}
use Rattle.pb_inventory.proofs.Fills.{filled-all, filled-more}
use Rattle.pb_inventory.proofs.Rows.{below_none, lists_of-set, row_read, row_within}
use Rattle.pb_inventory.proofs.family.members_of.Goals as goal

pub loop-place-init : goal.loop-place-init
loop-place-init c =
    let vs = c.in_ok-members.members.items in
    let n = length c.args.children.now in
    record {
      filled = λ j le lt. absurd (omega arith);
      count = omega (arith, length-map vs (λ v. v.items), ap length c.in_ok-members.ensures, length-replicate {A = List ℕ} n []);
      known = below_none vs n c.args.hosts c.in_ok-members.ensures;
      size = sym c.in_ok-seen.seen.ok.0 ∙ c.in_ok-seen.ensures.len;
      stamps = rw (c.in_ok-seen.ensures.items_if_clones_equal (λ y e. e)) (All-replicate (λ s. length c.args.order.now ≤ s) c.args.hosts (length c.args.order.now) (omega arith));
    }

pub family_of-requires-clause-children : goal.family_of-requires-clause-children
family_of-requires-clause-children c =
    let l = c.loop-place in
    let vs = c.args.children.now in
    let g = get_or c.args.order.now (l.place - 1) 0 in
    let size = length-map vs (λ v. v.items) in
    let within : g < length vs = omega (arith, c.requires.order.within (l.place - 1) (omega arith), size) in
    row_within (lists_of vs) g (length c.as_slice-in-loop-place-2.result.now) c.as_slice-in-loop-place.result.now c.requires.graph
    (c.as_slice-in-loop-place.ensures.value ∙ sym (row_read vs g c.index-children-group.result within c.index-children-group.is))
    (size ∙ sym l.invariant.count ∙ sym (ap length c.as_slice-in-loop-place-2.ensures.value))

pub loop-place-preserved : goal.loop-place-preserved
loop-place-preserved c =
    let l = c.loop-place in
    let h = c.in_ok-family.ensures in
    let ms = l.members.items in
    let os = c.args.own.now in
    let vs = c.args.children.now in
    let order = c.args.order.now in
    let j = l.place - 1 in
    let g = get_or order j 0 in
    let lt : j < length order = omega arith in
    let size = length-map vs (λ v. v.items) in
    let within : g < length vs = omega (arith, c.requires.order.within j lt, size) in
    let owned : g < length os = omega (arith, c.requires.count, length-map os (λ v. v.items), size) in
    let own : c.as_slice.result.now ≡ children_at (lists_of os) g = c.as_slice.ensures.value ∙ sym (row_read os g c.index-own-group.result owned c.index-own-group.is) in
    let row : c.as_slice-in-loop-place.result.now ≡ children_at (lists_of vs) g =
    c.as_slice-in-loop-place.ensures.value ∙ sym (row_read vs g c.index-children-group.result within c.index-children-group.is) in
    let is = rw (own, row, c.as_slice-in-loop-place-2.ensures.value) at h.members in
    let ws = c.family_of.new.seen in
    let marked : length ws ≡ l.seen.len = c.family_of.auto.seen ∙ c.as_mut_slice.ensures.len in
    let kept : (with_items l.seen ws).items ≡ ws = with_items_is l.seen ws marked in
    let all : length ws ≡ c.args.hosts = marked ∙ l.seen.ok.0 ∙ l.invariant.size in
    record {
      filled = rw (lists_of-set ms g c.in_ok-family.family)
          (filled-more (lists_of os) (lists_of vs) order j (lists_of ms) c.in_ok-family.family.items c.requires.graph c.requires.order lt
          (λ k le kn. l.invariant.filled k (omega arith) kn) (omega (arith, length-map ms (λ v. v.items), l.invariant.count)) is);
      count = length-set ms g c.in_ok-family.family ∙ l.invariant.count;
      known = All-set (λ v. All (λ n. n < c.args.hosts) v.items) ms g c.in_ok-family.family (λ k d few. omega (arith, h.known k d few, all)) l.invariant.known;
      size = ap length kept ∙ all;
      stamps = subst (All (λ s. j ≤ s)) (sym kept) h.stamps;
    }

pub returns-clause-members : goal.returns-clause-members
returns-clause-members c =
    let l = c.loop-place in
    filled-all (lists_of c.args.own.now) (lists_of c.args.children.now) c.args.order.now (lists_of l.members.items) c.requires.order
    (λ k le kn. l.invariant.filled k (omega arith) kn)
