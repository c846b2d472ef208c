use Rattle.std.proofs.Common.{◌≡◌, ◌<◌, ℕ, List, length, true, false, string_bytes, sym, ap, ◌∙◌, arith, rules}
use Rattle.std.specs.Ordering.{is_lt}
use Rattle.pb_lattice.proofs.Halves.{order}
use Rattle.pb_lattice.proofs.Sides.{first_ascending, other_ascending, first_has, other_has}
use Rattle.pb_lattice.proofs.tree.+has.Goals as goal

pub has-requires : goal.has-requires
has-requires t c =
    let es = c.args.names.now in
    let p = c.index-names-half.result in
    let some : 0 < length es = omega arith in
    (search rules, first_ascending c.args.name.now es p c.requires.1.1 some c.index-names-half.is)

pub has-requires-else-lt : goal.has-requires-else-lt
has-requires-else-lt t c =
    let es = c.args.names.now in
    let p = c.index-names-half.result in
    let some : 0 < length es = omega arith in
    (omega arith, other_ascending c.args.name.now es p c.requires.1.1 some c.index-names-half.is)

pub returns-then-lt : goal.returns-then-lt
returns-then-lt t c =
    let es = c.args.names.now in
    let n = c.args.name.now in
    let p = c.index-names-half.result in
    let some : 0 < length es = omega arith in
    let told : is_lt (order n (string_bytes p)) ≡ true = ap (λ (m : List ℕ). is_lt (order n m)) (sym c.as_str-2.ensures.value) ∙ sym c.if-lt.ensures in
    c.has.ensures ∙ first_has n es p c.requires.1.1 some c.index-names-half.is told

pub returns-else-lt : goal.returns-else-lt
returns-else-lt t c =
    let es = c.args.names.now in
    let n = c.args.name.now in
    let p = c.index-names-half.result in
    let some : 0 < length es = omega arith in
    let told : is_lt (order n (string_bytes p)) ≡ false = ap (λ (m : List ℕ). is_lt (order n m)) (sym c.as_str-2.ensures.value) ∙ sym c.if-lt.ensures in
    c.has-else-lt.ensures ∙ other_has n es p c.requires.1.1 some c.index-names-half.is told
