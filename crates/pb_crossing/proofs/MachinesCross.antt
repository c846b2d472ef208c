-- The machine of a run may go to another thread, and be shared with one.
use denote.Param.Send.{IsSend, IsSync, sendable}
use denote.Ref.{NamedLft}
use Rattle.std.proofs.Crossing as own
use Rattle.std.proofs.MapsCrossing as maps
use Rattle.pb_slots.specs.contracts.slots.Slots as Slots
use Rattle.pb_world.specs.contracts.constants.HostConstants as HostConstants
use Rattle.pb_world.specs.contracts.constants.Constants as Constants
use Rattle.pb_world.specs.contracts.active.ActiveHosts as ActiveHosts
use Rattle.pb_finish.specs.contracts.fixed.Fixed as Fixed
use Rattle.pb_jobs.specs.contracts.active.ActiveBatch as ActiveBatch
use Rattle.pb_jobs.specs.contracts.machine.Machine as Machine
use Rattle.pb_crossing.proofs.ValuesCross as values
use Rattle.pb_crossing.proofs.InventoriesCross as inventories
use Rattle.pb_crossing.proofs.FactsCross as facts
use Rattle.pb_crossing.proofs.PassesCross as passes
use Rattle.pb_crossing.proofs.StatesCross as states

pub Slots-field-send : IsSend (Slots.the_field).row
Slots-field-send = search (maps.crosses, own.crosses, sendable) depth 20

pub Slots-field-sync : IsSync (Slots.the_field).row
Slots-field-sync = search (maps.crosses, own.crosses, sendable) depth 20

pub Slots-send : IsSend Slots.the_row
Slots-send = search (Slots-field-send, sendable)

pub Slots-sync : IsSync Slots.the_row
Slots-sync = search (Slots-field-sync, sendable)

pub ruleset slots = (Slots-field-send, Slots-field-sync, Slots-send, Slots-sync)

pub HostConstants-field-send : IsSend (HostConstants.the_field).row
HostConstants-field-send = search (values.crosses, maps.crosses, own.crosses, sendable) depth 20

pub HostConstants-field-sync : IsSync (HostConstants.the_field).row
HostConstants-field-sync = search (values.crosses, maps.crosses, own.crosses, sendable) depth 20

pub HostConstants-send : IsSend HostConstants.the_row
HostConstants-send = search (HostConstants-field-send, sendable)

pub HostConstants-sync : IsSync HostConstants.the_row
HostConstants-sync = search (HostConstants-field-sync, sendable)

pub ruleset host_constants = (HostConstants-field-send, HostConstants-field-sync, HostConstants-send, HostConstants-sync)

pub Constants-field-send : IsSend (Constants.the_field).row
Constants-field-send = search (host_constants, values.crosses, maps.crosses, own.crosses, sendable) depth 20

pub Constants-field-sync : IsSync (Constants.the_field).row
Constants-field-sync = search (host_constants, values.crosses, maps.crosses, own.crosses, sendable) depth 20

pub Constants-send : IsSend Constants.the_row
Constants-send = search (Constants-field-send, sendable)

pub Constants-sync : IsSync Constants.the_row
Constants-sync = search (Constants-field-sync, sendable)

pub ruleset constants = (Constants-field-send, Constants-field-sync, Constants-send, Constants-sync)

pub ActiveHosts-field-send : IsSend (ActiveHosts.the_field).row
ActiveHosts-field-send = search (maps.crosses, own.crosses, sendable) depth 20

pub ActiveHosts-field-sync : IsSync (ActiveHosts.the_field).row
ActiveHosts-field-sync = search (maps.crosses, own.crosses, sendable) depth 20

pub ActiveHosts-send : IsSend ActiveHosts.the_row
ActiveHosts-send = search (ActiveHosts-field-send, sendable)

pub ActiveHosts-sync : IsSync ActiveHosts.the_row
ActiveHosts-sync = search (ActiveHosts-field-sync, sendable)

pub ruleset active_hosts = (ActiveHosts-field-send, ActiveHosts-field-sync, ActiveHosts-send, ActiveHosts-sync)

pub Fixed-field-send : IsSend (Fixed.the_field).row
Fixed-field-send = search (values.crosses, maps.crosses, own.crosses, sendable) depth 40

pub Fixed-field-sync : IsSync (Fixed.the_field).row
Fixed-field-sync = search (values.crosses, maps.crosses, own.crosses, sendable) depth 40

pub Fixed-send : IsSend Fixed.the_row
Fixed-send = search (Fixed-field-send, sendable)

pub Fixed-sync : IsSync Fixed.the_row
Fixed-sync = search (Fixed-field-sync, sendable)

pub ruleset fixed = (Fixed-field-send, Fixed-field-sync, Fixed-send, Fixed-sync)

pub ActiveBatch-field-send : IsSend (ActiveBatch.the_field).row
ActiveBatch-field-send = search (active_hosts, values.crosses, maps.crosses, own.crosses, sendable) depth 20

pub ActiveBatch-field-sync : IsSync (ActiveBatch.the_field).row
ActiveBatch-field-sync = search (active_hosts, values.crosses, maps.crosses, own.crosses, sendable) depth 20

pub ActiveBatch-send : IsSend ActiveBatch.the_row
ActiveBatch-send = search (ActiveBatch-field-send, sendable)

pub ActiveBatch-sync : IsSync ActiveBatch.the_row
ActiveBatch-sync = search (ActiveBatch-field-sync, sendable)

pub ruleset active_batch = (ActiveBatch-field-send, ActiveBatch-field-sync, ActiveBatch-send, ActiveBatch-sync)

module _ (life : NamedLft) where
  pub Machine-field-send : IsSend (Machine.the_field life).row
  Machine-field-send = search (slots, constants, fixed, active_batch, inventories.crosses, facts.crosses, passes.crosses, states.crosses, maps.crosses, own.crosses, sendable) depth 20

  pub Machine-field-sync : IsSync (Machine.the_field life).row
  Machine-field-sync = search (slots, constants, fixed, active_batch, inventories.crosses, facts.crosses, passes.crosses, states.crosses, maps.crosses, own.crosses, sendable) depth 20

  pub Machine-send : IsSend (Machine.the_row life)
  Machine-send = search (Machine-field-send, sendable)

  pub Machine-sync : IsSync (Machine.the_row life)
  Machine-sync = search (Machine-field-sync, sendable)

pub ruleset machine = (Machine-field-send, Machine-field-sync, Machine-send, Machine-sync)

pub ruleset crosses = (slots, host_constants, constants, active_hosts, fixed, active_batch, machine)
