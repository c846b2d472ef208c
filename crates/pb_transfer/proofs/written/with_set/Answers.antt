use Rattle.std.proofs.Common.{rules, string_bytes}
use Rattle.pb_kind.specs.KindView.{is_always, kind_view}
use Rattle.pb_lattice.specs.Environments.{exit_of, spot_in}
use Rattle.pb_lattice.proofs.Exits.{stands_well}
use Rattle.pb_transfer.proofs.Same.{known_well, set_well}
use Rattle.pb_transfer.proofs.written.with_set.Goals as goal

pub put-requires-clause-well : goal.put-requires-clause-well
put-requires-clause-well c =
    let s = c.args.space.now in
    let x = c.args.set.now in
    let e = exit_of s c.args.at in
    let n = string_bytes x.name.value in
    set_well (is_always c.in_ok-slot.slot.presence) x.is_certain (spot_in n e) (kind_view c.in_ok-slot.slot.kind) (kind_view x.kind) (search rules)
    (known_well n e (stands_well s c.args.at c.requires.stands)) c.requires.well
