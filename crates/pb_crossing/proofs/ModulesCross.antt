-- The modules of a run may go to another thread, and be shared with one.
use denote.Param.Send.{IsSend, IsSync, sendable}
use Rattle.std.proofs.Crossing as own
use Rattle.pb_sig.specs.contracts.signature.Parameter as Parameter
use Rattle.pb_sig.specs.contracts.builtin.Builtin as Builtin
use Rattle.pb_sig.specs.contracts.declared.Declared as Declared
use Rattle.pb_sig.specs.contracts.registry.Known as Known
use Rattle.pb_sig.specs.contracts.registry.Registry as Registry
use Rattle.pb_crossing.proofs.KindsCross as kinds

pub Parameter-field-send : IsSend (Parameter.the_field).row
Parameter-field-send = search (kinds.crosses, own.crosses, sendable) depth 20

pub Parameter-field-sync : IsSync (Parameter.the_field).row
Parameter-field-sync = search (kinds.crosses, own.crosses, sendable) depth 20

pub Parameter-send : IsSend Parameter.the_row
Parameter-send = search (Parameter-field-send, sendable)

pub Parameter-sync : IsSync Parameter.the_row
Parameter-sync = search (Parameter-field-sync, sendable)

pub ruleset parameter = (Parameter-field-send, Parameter-field-sync, Parameter-send, Parameter-sync)

pub Builtin-field-send : IsSend (Builtin.the_field).row
Builtin-field-send = search (parameter, kinds.crosses, own.crosses, sendable) depth 20

pub Builtin-field-sync : IsSync (Builtin.the_field).row
Builtin-field-sync = search (parameter, kinds.crosses, own.crosses, sendable) depth 20

pub Builtin-send : IsSend Builtin.the_row
Builtin-send = search (Builtin-field-send, sendable)

pub Builtin-sync : IsSync Builtin.the_row
Builtin-sync = search (Builtin-field-sync, sendable)

pub ruleset builtin = (Builtin-field-send, Builtin-field-sync, Builtin-send, Builtin-sync)

pub Declared-field-send : IsSend (Declared.the_field).row
Declared-field-send = search (parameter, kinds.crosses, own.crosses, sendable) depth 20

pub Declared-field-sync : IsSync (Declared.the_field).row
Declared-field-sync = search (parameter, kinds.crosses, own.crosses, sendable) depth 20

pub Declared-send : IsSend Declared.the_row
Declared-send = search (Declared-field-send, sendable)

pub Declared-sync : IsSync Declared.the_row
Declared-sync = search (Declared-field-sync, sendable)

pub ruleset declared = (Declared-field-send, Declared-field-sync, Declared-send, Declared-sync)

pub Known-field-send : IsSend (Known.the_field).row
Known-field-send = search (builtin, declared, own.crosses, sendable) depth 20

pub Known-field-sync : IsSync (Known.the_field).row
Known-field-sync = search (builtin, declared, own.crosses, sendable) depth 20

pub Known-send : IsSend Known.the_row
Known-send = search (Known-field-send, sendable)

pub Known-sync : IsSync Known.the_row
Known-sync = search (Known-field-sync, sendable)

pub ruleset known = (Known-field-send, Known-field-sync, Known-send, Known-sync)

pub Registry-field-send : IsSend (Registry.the_field).row
Registry-field-send = search (known, own.crosses, sendable) depth 20

pub Registry-field-sync : IsSync (Registry.the_field).row
Registry-field-sync = search (known, own.crosses, sendable) depth 20

pub Registry-send : IsSend Registry.the_row
Registry-send = search (Registry-field-send, sendable)

pub Registry-sync : IsSync Registry.the_row
Registry-sync = search (Registry-field-sync, sendable)

pub ruleset registry = (Registry-field-send, Registry-field-sync, Registry-send, Registry-sync)

pub ruleset crosses = (parameter, builtin, declared, known, registry)
