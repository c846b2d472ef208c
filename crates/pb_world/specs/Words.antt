-- The words of this crate that the contracts of others cite, from one place.
pub use Rattle.pb_world.specs.Constants.{AreConstants, names_data}
pub use Rattle.pb_world.specs.Failure.{text_of}
pub use Rattle.pb_world.specs.Hosts.{AreNamed, names_of_hosts}
pub use Rattle.pb_world.specs.RunWorld.{ShowsRun}
pub use Rattle.pb_world.specs.Variables.{given_variables, host_variables, variables_at}
pub use Rattle.pb_world.specs.World.{Shows, failure_value, hosts_shown, world_shown}
pub use Rattle.pb_world.specs.Writes.{have_slots, slot_fields, with_values}
