-- What a module means, and which modules a run may have.
use Rattle.std.specs.Prelude.{List, [], ◌∷◌, Bool, true, ◌&&◌, map, None, option_map, string_bytes}
use Rattle.std.specs.declared.alloc.Global.{Global}
use Rattle.std.specs.declared.sync.Arc.{Arc}
use Rattle.pb_kind.specs.KindView.{kind_view}
use Rattle.pb_semantics.specs.Signature.{ModuleData}
use Rattle.pb_language.specs.Judgement.{is_lawful}
use Rattle.pb_sig.specs.Views.{parameter_view}
use Rattle.pb_sig.specs.declared.builtin.Builtin.{Builtin}
use Rattle.pb_sig.specs.declared.declared.Declared.{Declared}
use Rattle.pb_sig.specs.declared.registry.Known.{Known}
use Rattle.pb_sig.specs.declared.registry.Known.TheVariants as known

abbrev pub builtin_view : Builtin → ModuleData
builtin_view m = record {
  name = string_bytes m.name.value;
  params = map parameter_view m.parameters.items;
  ok = kind_view m.ok;
  failure = kind_view m.failure;
  free = option_map string_bytes m.free;
}

abbrev pub declared_view : Declared → ModuleData
declared_view m = record {
  name = string_bytes m.name.value;
  params = map parameter_view m.parameters.items;
  ok = kind_view m.ok;
  failure = kind_view m.failure;
  free = None;
}

abbrev pub known_view : Known → ModuleData
known_view (known.Builtin m) = builtin_view m
known_view (known.Declared m) = declared_view m

-- a module in a block that its copies share
abbrev pub shared_view : Arc Known Global → ModuleData
shared_view m = known_view m.value

-- each keeps the laws of modules
abbrev pub are_lawful_modules : List ModuleData → Bool
are_lawful_modules [] = true
are_lawful_modules (m ∷ ms) = is_lawful m && are_lawful_modules ms
