-- The world that is shown, and what has to be known of a run's state for it to be the one of the
-- definitions.
use Rattle.std.specs.Prelude.{◌≡◌, ℕ, zero, suc, List, Option, Some, None, option_map}
use Rattle.std.specs.Prelude.{codes}
use Rattle.pb_semantics.specs.Data.{Data, text, list, rec, no_fields, field}
use Rattle.pb_language.specs.Machine.{innermost, outermost}
use Rattle.pb_language.specs.Program.{Batch, memberships_of}
use Rattle.pb_language.specs.Setting.{group_fields, names_list}
use Rattle.pb_language.specs.Task.{Task}
use Rattle.pb_language.specs.World.{HostVariables, World}
use Rattle.pb_machine.specs.Hosts.{FlatHost}
use Rattle.pb_machine.specs.Run.{FlatState, still_active, variables_seen}
use Rattle.pb_inventory.specs.Inventory.{inventory_view}
use Rattle.pb_inventory.specs.Numbered.{name_of, named}
use Rattle.pb_value.specs.View.{view}
use Rattle.pb_world.specs.Always.{always_over}
use Rattle.pb_world.specs.Hosts.{hosts_from, names_of_hosts}
use Rattle.pb_world.specs.Variables.{variables_at}
use Rattle.pb_world.specs.declared.variables.Variables.{Variables}
use Rattle.pb_world.specs.declared.world.HostWorld.{HostWorld}

abbrev pub hosts_shown : Variables → List HostVariables
hosts_shown v = hosts_from (variables_at v) 0 (inventory_view v.inventory.now).hosts

abbrev pub world_shown : HostWorld → World
world_shown w =
    let i = inventory_view w.variables.now.inventory.now in
    let ns = names_of_hosts i.hosts in record {
      mine = always_over w.always (variables_at w.variables.now w.host);
      this = name_of ns w.host;
      hosts = hosts_shown w.variables.now;
      batch = named ns w.active.now.members;
      groups = i.groups;
    }

-- the failure as a variable, inside so many `rescue` parts
abbrev pub failure_value : ℕ → List ℕ → Option Data
failure_value zero s = None
failure_value (suc d) s = Some (rec (field (codes "msg") (text s) no_fields))

-- what is kept for a host's task is what the state has of it
pub record Shows (w : HostWorld) (s : FlatState) (b : Batch) (h : FlatHost) (t : Task)
    : Type 0 where
  pub inventory : inventory_view w.variables.now.inventory.now ≡ s.inventory
  pub name : name_of (names_of_hosts s.inventory.hosts) w.host ≡ h.name
  pub variables : variables_at w.variables.now w.host ≡ h.variables
  pub hosts : hosts_shown w.variables.now ≡ variables_seen s.hosts
  pub active : named (names_of_hosts s.inventory.hosts) w.active.now.members
      ≡ still_active s.hosts b.members
  pub host_name : view w.always.host_name.now ≡ text h.name
  pub groups : view w.always.groups.now ≡ rec (group_fields s.inventory.groups)
  pub group_names : view w.always.group_names.now
      ≡ list (names_list (memberships_of h.name s.inventory.groups))
  pub play_batch : view w.always.play_batch.now
      ≡ list (names_list (still_active s.hosts b.members))
  pub failure : option_map (λ v. view v.now) w.always.failure
      ≡ failure_value t.depth (innermost (outermost t.depth h.rescues))
