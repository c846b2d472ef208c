-- The words of this crate that the contracts of others cite, from one place.
pub use Rattle.pb_start.specs.Actions.{action_view}
pub use Rattle.pb_start.specs.Blocks.{block_fields}
pub use Rattle.pb_start.specs.Conditions.{is_so, truth_of}
pub use Rattle.pb_start.specs.Items.{is_other, is_other_host, is_other_root, read_no_item}
pub use Rattle.pb_start.specs.Locals.{world_with}
pub use Rattle.pb_start.specs.Passes.{ArePlanned, IsMade, IsValue, call_arguments}
pub use Rattle.pb_start.specs.Passes.{entry_arguments, entry_view, pass_view, shape_of}
pub use Rattle.pb_start.specs.Prepared.{Prepares, trees_of}
