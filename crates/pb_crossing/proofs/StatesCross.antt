-- Where the hosts of a run stand may go to another thread, and be shared with one.
use denote.Param.Send.{IsSend, IsSync, sendable}
use denote.RattleType.{RattleType}
use Rattle.std.proofs.Crossing as own
use Rattle.std.proofs.MapsCrossing as maps
use Rattle.pb_position.specs.contracts.position.Position as Position
use Rattle.pb_core.specs.contracts.recap.Recap as Recap
use Rattle.pb_core.specs.contracts.index.ReadyIndex as ReadyIndex
use Rattle.pb_core.specs.contracts.host.Stage as Stage
use Rattle.pb_core.specs.contracts.host.HostState as HostState
use Rattle.pb_core.specs.contracts.run.RunCore as RunCore
use Rattle.pb_crossing.proofs.SchedulesCross as schedules

pub Position-field-send : IsSend (Position.the_field).row
Position-field-send = search (schedules.crosses, maps.crosses, own.crosses, sendable) depth 20

pub Position-field-sync : IsSync (Position.the_field).row
Position-field-sync = search (schedules.crosses, maps.crosses, own.crosses, sendable) depth 20

pub Position-send : IsSend Position.the_row
Position-send = search (Position-field-send, sendable)

pub Position-sync : IsSync Position.the_row
Position-sync = search (Position-field-sync, sendable)

pub ruleset position = (Position-field-send, Position-field-sync, Position-send, Position-sync)

pub Recap-field-send : IsSend (Recap.the_field).row
Recap-field-send = search (schedules.crosses, maps.crosses, own.crosses, sendable) depth 20

pub Recap-field-sync : IsSync (Recap.the_field).row
Recap-field-sync = search (schedules.crosses, maps.crosses, own.crosses, sendable) depth 20

pub Recap-send : IsSend Recap.the_row
Recap-send = search (Recap-field-send, sendable)

pub Recap-sync : IsSync Recap.the_row
Recap-sync = search (Recap-field-sync, sendable)

pub ruleset recap = (Recap-field-send, Recap-field-sync, Recap-send, Recap-sync)

pub ReadyIndex-field-send : IsSend (ReadyIndex.the_field).row
ReadyIndex-field-send = search (maps.crosses, own.crosses, sendable) depth 40

pub ReadyIndex-field-sync : IsSync (ReadyIndex.the_field).row
ReadyIndex-field-sync = search (maps.crosses, own.crosses, sendable) depth 40

pub ReadyIndex-send : IsSend ReadyIndex.the_row
ReadyIndex-send = search (ReadyIndex-field-send, sendable)

pub ReadyIndex-sync : IsSync ReadyIndex.the_row
ReadyIndex-sync = search (ReadyIndex-field-sync, sendable)

pub ruleset ready_index = (ReadyIndex-field-send, ReadyIndex-field-sync, ReadyIndex-send, ReadyIndex-sync)

module _ (P : RattleType) where
  pub Stage-field-send : IsSend P → IsSend (Stage.the_field P).row
  Stage-field-send p = search (schedules.crosses, maps.crosses, own.crosses, sendable) depth 20

  pub Stage-field-sync : IsSync P → IsSync (Stage.the_field P).row
  Stage-field-sync p = search (schedules.crosses, maps.crosses, own.crosses, sendable) depth 20

  pub Stage-send : IsSend P → IsSend (Stage.the_row P)
  Stage-send p = search (Stage-field-send, sendable)

  pub Stage-sync : IsSync P → IsSync (Stage.the_row P)
  Stage-sync p = search (Stage-field-sync, sendable)

pub ruleset stage = (Stage-field-send, Stage-field-sync, Stage-send, Stage-sync)

module _ (P : RattleType) where
  pub HostState-field-send : IsSend P → IsSend (HostState.the_field P).row
  HostState-field-send p = search (position, stage, recap, schedules.crosses, maps.crosses, own.crosses, sendable) depth 20

  pub HostState-field-sync : IsSync P → IsSync (HostState.the_field P).row
  HostState-field-sync p = search (position, stage, recap, schedules.crosses, maps.crosses, own.crosses, sendable) depth 20

  pub HostState-send : IsSend P → IsSend (HostState.the_row P)
  HostState-send p = search (HostState-field-send, sendable)

  pub HostState-sync : IsSync P → IsSync (HostState.the_row P)
  HostState-sync p = search (HostState-field-sync, sendable)

pub ruleset host_state = (HostState-field-send, HostState-field-sync, HostState-send, HostState-sync)

module _ (P : RattleType) where
  pub RunCore-field-send : IsSend P → IsSend (RunCore.the_field P).row
  RunCore-field-send p = search (host_state, ready_index, schedules.crosses, maps.crosses, own.crosses, sendable) depth 20

  pub RunCore-field-sync : IsSync P → IsSync (RunCore.the_field P).row
  RunCore-field-sync p = search (host_state, ready_index, schedules.crosses, maps.crosses, own.crosses, sendable) depth 20

  pub RunCore-send : IsSend P → IsSend (RunCore.the_row P)
  RunCore-send p = search (RunCore-field-send, sendable)

  pub RunCore-sync : IsSync P → IsSync (RunCore.the_row P)
  RunCore-sync p = search (RunCore-field-sync, sendable)

pub ruleset run_core = (RunCore-field-send, RunCore-field-sync, RunCore-send, RunCore-sync)

pub ruleset crosses = (position, recap, ready_index, stage, host_state, run_core)
