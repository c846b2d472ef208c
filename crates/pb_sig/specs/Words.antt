-- The words of this crate that the contracts of others cite, from one place.
pub use Rattle.pb_language.specs.TaskForm.{without_prefix}
pub use Rattle.pb_sig.specs.ModuleView.{known_view, shared_view}
pub use Rattle.pb_sig.specs.Modules.{module_at, modules_of}
pub use Rattle.pb_sig.specs.Results.{result_kind}
pub use Rattle.pb_sig.specs.Table.{builtins}
pub use Rattle.pb_sig.specs.Views.{parameter_view}
