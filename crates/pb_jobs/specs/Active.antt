-- The active hosts of the batch that runs.
use Rattle.std.specs.Prelude.{◌≡◌, Vec, map}
use Rattle.std.specs.declared.alloc.Global.{Global}
use Rattle.pb_language.specs.Program.{Inventory}
use Rattle.pb_machine.specs.Run.{FlatState}
use Rattle.pb_value.specs.View.{view}
use Rattle.pb_start.specs.declared.passes.Pass.{Pass}
use Rattle.pb_world.specs.Constants.{AreConstants, names_data}
use Rattle.pb_world.specs.declared.constants.Constants.{Constants}
use Rattle.pb_core.specs.Readings.{Reading}
use Rattle.pb_core.specs.Cores.{IsCore}
use Rattle.pb_core.specs.Events.{active_in}
use Rattle.pb_core.specs.declared.run.RunCore.{RunCore}
use Rattle.pb_jobs.specs.declared.active.ActiveBatch.{ActiveBatch}

-- they are the active hosts of the batch that runs, and their names
pub record IsActiveBatch (reading : Reading (Vec Pass Global)) (i : Inventory) (s : FlatState)
    (b : ActiveBatch) : Type 0 where
  pub hosts : map reading.name b.hosts.members ≡ active_in s.hosts s.batches
  pub names : view b.names ≡ names_data i b.hosts.members

-- wherever the core stands
abbrev pub AreActiveIn : RunCore (Vec Pass Global) → Constants → ActiveBatch → Type 0
AreActiveIn core c b = (reading : Reading (Vec Pass Global)) (i : Inventory) (s : FlatState)
    → AreConstants i c → IsCore reading core s → IsActiveBatch reading i s b
