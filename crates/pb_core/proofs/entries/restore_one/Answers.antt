use Rattle.std.proofs.Common.{◌<◌, length, refl, arith}
use Rattle.pb_core.proofs.Hosts.{there}
use Rattle.pb_core.proofs.Formers.{stands_one}
use Rattle.pb_core.proofs.entries.restore_one.Goals as goal

pub returns : goal.returns
returns g c =
    let within : c.args.former.host < length c.args.hosts.now.items = omega (arith, c.if-host-len.false, c.args.hosts.now.ok) in
    let x = c.index_mut-state.result.now in
    stands_one c.args.hosts.now c.args.former x _ (there c.args.hosts.now.items c.args.former.host x within c.index_mut-state.ensures.value) refl refl refl refl
