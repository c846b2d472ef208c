-- The kind of what a task of a module registers.
use Rattle.std.specs.Prelude.{false}
use Rattle.pb_semantics.specs.Kind.{KindData}
use Rattle.pb_semantics.specs.Signature.{ModuleData}
use Rattle.pb_language.specs.Cases.{slots_of}
use Rattle.pb_language.specs.Narrow.{results_of}
use Rattle.pb_sig.specs.Results.{result_cases}

-- of a task that always runs, where it goes on
abbrev pub registered_kind : ModuleData → KindData
registered_kind m = results_of (result_cases false m.name (slots_of m.ok))
