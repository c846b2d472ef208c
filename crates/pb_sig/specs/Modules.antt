-- The modules of a run, and which one a name finds.
use Rattle.std.specs.Prelude.{List, map}
use Rattle.pb_semantics.specs.Signature.{ModuleData}
use Rattle.pb_sig.specs.ModuleView.{shared_view}
use Rattle.pb_sig.specs.declared.registry.Registry.{Registry}
-- the first module of that name
pub use Rattle.pb_language.specs.TaskForm.{module_at}

abbrev pub modules_of : Registry → List ModuleData
modules_of r = map shared_view r.modules.items
