use Rattle.std.proofs.Common.{◌≡◌, ◌<◌, List, ℕ, length, true, false, string_bytes, sym, ap, ◌∙◌, rules, arith}
use Rattle.std.proofs.lemmas.Result.{IfOk-weaker}
use Rattle.std.specs.Ordering.{is_lt}
use Rattle.pb_kind.specs.KindView.{is_always, kind_view}
use Rattle.pb_lattice.specs.Trees.{fits, fork}
use Rattle.pb_lattice.specs.Arena.{names_of, tree_at}
use Rattle.pb_lattice.proofs.Halves.{order}
use Rattle.pb_lattice.proofs.Sides.{first_ascending, other_ascending, first_among, other_among, first_fits, other_fits}
use Rattle.pb_lattice.proofs.Puts.{named, put_one, put_first, put_second}
use Rattle.pb_lattice.proofs.tree.+put.Goals as goal

pub returns-then-names-le1-clause-put : goal.returns-then-names-le1-clause-put
returns-then-names-le1-clause-put t c =
    let r = c.requires.1.1 in
    let a = is_always c.args.slot.presence in
    let k = kind_view c.args.slot.kind in
    IfOk-weaker c.add.result _ _ (λ i is. put_one (tree_at c.args.nodes.now c.args.place) c.args.names.now c.args.name.now a k c.add.new.self i c.if-names-le1.true r.1.1.1.0 r.1.1.0 is) c.add.ensures.new

pub put-requires : goal.put-requires
put-requires t c =
    let r = c.requires.1.1 in
    let f = tree_at c.args.nodes.now in
    let es = c.args.names.now in
    let n = c.args.name.now in
    let p = c.index-names-half.result in
    let h = c.halves-left.result in
    let some : 0 < length es = omega arith in
    let fit : fits (fork (f h.0) (f h.1)) (names_of es) ≡ true = (c.halves-left.ensures.split (names_of es) (named es (omega arith)) r.1.1.0).0 in
    let told : is_lt (order n (string_bytes p)) ≡ true = ap (λ (m : List ℕ). is_lt (order n m)) (sym c.as_str.ensures.value) ∙ sym c.if-lt.ensures in
    (search rules, (c.halves-left.ensures.left, (first_ascending n es p r.1.0 some c.index-names-half.is, (first_fits (f h.0) (f h.1) es fit, (first_among n es p r.1.0 some c.index-names-half.is r.1.1.1.0 told, r.1.1.1.1)))))

pub put-requires-else-lt : goal.put-requires-else-lt
put-requires-else-lt t c =
    let r = c.requires.1.1 in
    let f = tree_at c.args.nodes.now in
    let es = c.args.names.now in
    let n = c.args.name.now in
    let p = c.index-names-half.result in
    let h = c.halves-left.result in
    let some : 0 < length es = omega arith in
    let fit : fits (fork (f h.0) (f h.1)) (names_of es) ≡ true = (c.halves-left.ensures.split (names_of es) (named es (omega arith)) r.1.1.0).0 in
    let told : is_lt (order n (string_bytes p)) ≡ false = ap (λ (m : List ℕ). is_lt (order n m)) (sym c.as_str.ensures.value) ∙ sym c.if-lt.ensures in
    (search rules, (c.halves-left.ensures.right, (other_ascending n es p r.1.0 some c.index-names-half.is, (other_fits (f h.0) (f h.1) es fit, (other_among n es p r.1.0 some c.index-names-half.is r.1.1.1.0 told, r.1.1.1.1)))))

pub returns-in_ok-left-clause-put : goal.returns-in_ok-left-clause-put
returns-in_ok-left-clause-put t c =
    let r = c.requires.1.1 in
    let es = c.args.names.now in
    let n = c.args.name.now in
    let p = c.index-names-half.result in
    let h = c.halves-left.result in
    let told : is_lt (order n (string_bytes p)) ≡ true = ap (λ (m : List ℕ). is_lt (order n m)) (sym c.as_str.ensures.value) ∙ sym c.if-lt.ensures in
    IfOk-weaker c.add-then-lt.result _ _
    (λ i is. put_first c.args.nodes.now c.put.new.nodes c.add-then-lt.new.self c.args.place h.0 h.1 c.in_ok-left.left i es n p (is_always c.args.slot.presence) (kind_view c.args.slot.kind) r.1.0 (omega arith)
    c.index-names-half.is r.1.1.0 c.halves-left.ensures.split c.put.ensures.grown c.halves-left.ensures.right told c.in_ok-left.ensures.put is)
    c.add-then-lt.ensures.new

pub returns-in_ok-right-clause-put : goal.returns-in_ok-right-clause-put
returns-in_ok-right-clause-put t c =
    let r = c.requires.1.1 in
    let es = c.args.names.now in
    let n = c.args.name.now in
    let p = c.index-names-half.result in
    let h = c.halves-left.result in
    let told : is_lt (order n (string_bytes p)) ≡ false = ap (λ (m : List ℕ). is_lt (order n m)) (sym c.as_str.ensures.value) ∙ sym c.if-lt.ensures in
    IfOk-weaker c.add-else-lt.result _ _
    (λ i is. put_second c.args.nodes.now c.put-else-lt.new.nodes c.add-else-lt.new.self c.args.place h.0 h.1 c.in_ok-right.right i es n p (is_always c.args.slot.presence) (kind_view c.args.slot.kind) r.1.0 (omega arith)
    c.index-names-half.is r.1.1.0 c.halves-left.ensures.split c.put-else-lt.ensures.grown c.halves-left.ensures.left told c.in_ok-right.ensures.put is)
    c.add-else-lt.ensures.new
