use Rattle.std.proofs.Common.{◌≡◌, ℕ, List, true, false, string_bytes, sym, ap, ◌∙◌, subst, arith}
use Rattle.std.specs.Ordering.{is_lt}
use Rattle.pb_semantics.specs.Kind.{slot_at}
use Rattle.pb_lattice.specs.Trees.{Tree, fork, fits, slots_over}
use Rattle.pb_lattice.specs.Arena.{names_of, tree_at}
use Rattle.pb_lattice.proofs.Halves.{order}
use Rattle.pb_lattice.proofs.Meetings.{forked}
use Rattle.pb_lattice.proofs.Sides.{first_ascending, other_ascending, first_fits, other_fits, first_at, other_at, some_names}
use Rattle.pb_lattice.proofs.tree.+find.Goals as goal

pub find-requires : goal.find-requires
find-requires t c =
    let f = tree_at c.args.nodes.now in
    let es = c.args.names.now in
    let p = c.index-names-half.result in
    let k = forked f c.args.place c.part.result.now c.in-Fork.left c.in-Fork.right c.part.ensures.means c.in-Fork.is c.part.ensures.below in
    let fit : fits (fork (f c.in-Fork.left) (f c.in-Fork.right)) (names_of es) ≡ true = subst (λ (u : Tree). fits u (names_of es) ≡ true) k.means c.requires.1.1.1.1 in
    let many = some_names (f c.in-Fork.left) (f c.in-Fork.right) es fit in
    (omega arith, (omega arith, (first_ascending c.args.name.now es p c.requires.1.1.1.0 (omega arith) c.index-names-half.is, first_fits (f c.in-Fork.left) (f c.in-Fork.right) es fit)))

pub find-requires-else-lt : goal.find-requires-else-lt
find-requires-else-lt t c =
    let f = tree_at c.args.nodes.now in
    let es = c.args.names.now in
    let p = c.index-names-half.result in
    let k = forked f c.args.place c.part.result.now c.in-Fork.left c.in-Fork.right c.part.ensures.means c.in-Fork.is c.part.ensures.below in
    let fit : fits (fork (f c.in-Fork.left) (f c.in-Fork.right)) (names_of es) ≡ true = subst (λ (u : Tree). fits u (names_of es) ≡ true) k.means c.requires.1.1.1.1 in
    let many = some_names (f c.in-Fork.left) (f c.in-Fork.right) es fit in
    (omega arith, (omega arith, (other_ascending c.args.name.now es p c.requires.1.1.1.0 (omega arith) c.index-names-half.is, other_fits (f c.in-Fork.left) (f c.in-Fork.right) es fit)))

pub returns-then-lt : goal.returns-then-lt
returns-then-lt t c =
    let f = tree_at c.args.nodes.now in
    let es = c.args.names.now in
    let n = c.args.name.now in
    let p = c.index-names-half.result in
    let k = forked f c.args.place c.part.result.now c.in-Fork.left c.in-Fork.right c.part.ensures.means c.in-Fork.is c.part.ensures.below in
    let fit : fits (fork (f c.in-Fork.left) (f c.in-Fork.right)) (names_of es) ≡ true = subst (λ (u : Tree). fits u (names_of es) ≡ true) k.means c.requires.1.1.1.1 in
    let many = some_names (f c.in-Fork.left) (f c.in-Fork.right) es fit in
    let told : is_lt (order n (string_bytes p)) ≡ true = ap (λ (m : List ℕ). is_lt (order n m)) (sym c.as_str-in-Fork.ensures.value) ∙ sym c.if-lt.ensures in
    c.find.ensures ∙ first_at n es p c.requires.1.1.1.0 (omega arith) c.index-names-half.is (f c.in-Fork.left) (f c.in-Fork.right) told ∙ ap (λ (u : Tree). slot_at n (slots_over u (names_of es))) (sym k.means)

pub returns-else-lt : goal.returns-else-lt
returns-else-lt t c =
    let f = tree_at c.args.nodes.now in
    let es = c.args.names.now in
    let n = c.args.name.now in
    let p = c.index-names-half.result in
    let k = forked f c.args.place c.part.result.now c.in-Fork.left c.in-Fork.right c.part.ensures.means c.in-Fork.is c.part.ensures.below in
    let fit : fits (fork (f c.in-Fork.left) (f c.in-Fork.right)) (names_of es) ≡ true = subst (λ (u : Tree). fits u (names_of es) ≡ true) k.means c.requires.1.1.1.1 in
    let many = some_names (f c.in-Fork.left) (f c.in-Fork.right) es fit in
    let told : is_lt (order n (string_bytes p)) ≡ false = ap (λ (m : List ℕ). is_lt (order n m)) (sym c.as_str-in-Fork.ensures.value) ∙ sym c.if-lt.ensures in
    c.find-else-lt.ensures ∙ other_at n es p c.requires.1.1.1.0 (omega arith) c.index-names-half.is (f c.in-Fork.left) (f c.in-Fork.right) told ∙ ap (λ (u : Tree). slot_at n (slots_over u (names_of es))) (sym k.means)
