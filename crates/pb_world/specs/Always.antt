-- The names that are always there, over a host's variables.
use denote.Ref.{Bor}
use Rattle.std.specs.Prelude.{Option, Some, None, codes}
use Rattle.pb_semantics.specs.Data.{Fields, field}
use Rattle.pb_value.specs.View.{view}
use Rattle.pb_value.specs.declared.value.Value.{Value}
use Rattle.pb_world.specs.declared.always.AlwaysThere.{AlwaysThere}
pub use Rattle.pb_facts.specs.Variables.{or_else}

abbrev pub failure_over : Option (Bor Value) → Fields → Fields
failure_over None fs = fs
failure_over (Some v) fs = field (codes "ansible_failed_result") (view v.now) fs

abbrev pub always_over : AlwaysThere → Fields → Fields
always_over a fs =
    field (codes "inventory_hostname") (view a.host_name.now)
    (field (codes "groups") (view a.groups.now)
    (field (codes "group_names") (view a.group_names.now)
    (field (codes "ansible_play_batch") (view a.play_batch.now) (failure_over a.failure fs))))
