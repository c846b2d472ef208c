use Rattle.std.proofs.Common.{◌<◌, length, refl, arith}
use Rattle.pb_core.proofs.Hosts.{there}
use Rattle.pb_core.proofs.Formers.{enters_as, more_back}
use Rattle.pb_core.proofs.entries.enter_one.Goals as goal

pub returns-clause-entered : goal.returns-clause-entered
returns-clause-entered g c =
    let within : c.args.entry.host < length c.args.hosts.now.items = omega (arith, c.if-host-len.false, c.args.hosts.now.ok) in
    enters_as c.args.hosts.now.items c.index_mut-state.result.now _ c.args.entry
    (there c.args.hosts.now.items c.args.entry.host c.index_mut-state.result.now within c.index_mut-state.ensures.value) c.replace.ensures.after c.replace-2.ensures.after refl refl

pub returns-clause-back : goal.returns-clause-back
returns-clause-back g c =
    let within : c.args.entry.host < length c.args.hosts.now.items = omega (arith, c.if-host-len.false, c.args.hosts.now.ok) in
    let x = c.index_mut-state.result.now in
    more_back c.args.hosts.now c.args.formers.now.items c.push_reserved.new.self.items _ x _ c.push_reserved.ensures.items
    (there c.args.hosts.now.items c.args.entry.host x within c.index_mut-state.ensures.value) c.replace.ensures.value c.replace-2.ensures.value refl refl
