use Rattle.std.proofs.Common.{rules, arith}
use Rattle.std.proofs.lemmas.Result.{IfOk-weaker}
use Rattle.pb_kind.specs.KindView.{is_always, kind_view}
use Rattle.pb_lattice.specs.Arena.{names_of}
use Rattle.pb_lattice.specs.Bulk.{pairs_view}
use Rattle.pb_lattice.proofs.Building.{built_fork, first_well, one_well, other_well}
use Rattle.pb_lattice.proofs.bulk.+build.Goals as goal

pub add-requires-clause-well : goal.add-requires-clause-well
add-requires-clause-well t c =
    let s = c.in_ok-slot.slot in
    one_well (names_of c.args.names.now) (is_always s.presence) (kind_view s.kind) (pairs_view c.args.pairs.now) c.in_ok-slot.ensures.one c.in_ok-slot.ensures.slots c.requires

pub build-requires : goal.build-requires
build-requires t c = (search rules, first_well c.first_from-split.result c.args.pairs.now c.requires)

pub build-requires-2 : goal.build-requires-2
build-requires-2 t c = (omega arith, other_well c.first_from-split.result c.args.pairs.now c.requires)

pub returns-clause-built : goal.returns-clause-built
returns-clause-built t c =
    IfOk-weaker c.add-2.result _ _
    (λ i is. built_fork c.build.new.nodes c.build-2.new.nodes c.add-2.new.self c.in_ok-left.left c.in_ok-right.right i c.first_from-split.result c.args.names.now c.args.pairs.now c.if-names-le1.false c.in_ok-left.ensures.built
    c.build-2.ensures.grown c.in_ok-right.ensures.built is)
    c.add-2.ensures.new
