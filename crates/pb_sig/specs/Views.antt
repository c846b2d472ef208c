-- What parameters and modules mean.
use Rattle.std.specs.Prelude.{string_bytes}
use Rattle.pb_kind.specs.KindView.{kind_view}
use Rattle.pb_semantics.specs.Signature.{ParameterData}
use Rattle.pb_sig.specs.declared.signature.Parameter.{Parameter}

abbrev pub parameter_view : Parameter → ParameterData
parameter_view p =
    record { name = string_bytes p.name; kind = kind_view p.kind; required = p.required }
