-- What has to be known of a run's state for the worlds of its hosts' tasks to be those of the
-- definitions.
use Rattle.std.specs.Prelude.{◌≡◌}
use Rattle.pb_language.specs.Program.{Batch}
use Rattle.pb_machine.specs.Run.{FlatState, still_active, variables_seen}
use Rattle.pb_inventory.specs.Inventory.{inventory_view}
use Rattle.pb_inventory.specs.Numbered.{named}
use Rattle.pb_value.specs.View.{view}
use Rattle.pb_world.specs.Constants.{AreConstants, names_data}
use Rattle.pb_world.specs.Hosts.{names_of_hosts}
use Rattle.pb_world.specs.World.{hosts_shown}
use Rattle.pb_world.specs.declared.run_world.RunWorld.{RunWorld}

-- what is kept for all hosts is what the state has of them
pub record ShowsRun (r : RunWorld) (s : FlatState) (b : Batch) : Type 0 where
  pub inventory : inventory_view r.variables.inventory.now ≡ s.inventory
  pub constants : AreConstants s.inventory r.constants.now
  pub hosts : hosts_shown r.variables ≡ variables_seen s.hosts
  pub active : named (names_of_hosts s.inventory.hosts) r.active.now.members
      ≡ still_active s.hosts b.members
  pub play_batch : view r.play_batch.now ≡ names_data s.inventory r.active.now.members
