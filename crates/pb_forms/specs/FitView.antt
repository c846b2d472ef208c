-- Faults, and what leads to them.
use Rattle.std.specs.Prelude.{◌≡◌, true, false, List, Option, Some, None}
use Rattle.pb_semantics.specs.Kind.{KindData, Spot, nowhere, spot}
use Rattle.pb_language.specs.Expression.{Name}
use Rattle.pb_language.specs.Fit.{Fault, perhaps_undefined, perhaps_undefined_there}
use Rattle.pb_language.specs.Fit.{perhaps_missing, wrong_kind, unknown_name}
use Rattle.pb_language.specs.Fit.{steps_fault}
use Rattle.pb_forms.specs.declared.unfit.Unfit.{Unfit}
use Rattle.pb_forms.specs.declared.unfit.Unfit.TheVariants.{Undefined, UndefinedThere}
use Rattle.pb_forms.specs.declared.unfit.Unfit.TheVariants.{MissingField, WrongKind, UnknownName}

abbrev pub fault_view : Unfit → Fault
fault_view Undefined = perhaps_undefined
fault_view UndefinedThere = perhaps_undefined_there
fault_view MissingField = perhaps_missing
fault_view WrongKind = wrong_kind
fault_view UnknownName = unknown_name

-- the kind of a name or a field that is certainly there
abbrev pub certain : Spot → Option KindData
certain nowhere = None
certain (spot true k) = Some k
certain (spot false k) = None

-- the first steps below the first kind are asked for what the second below the second are
abbrev pub LeadsTo : List Name → KindData → List Name → KindData → Type 0
LeadsTo ns k ms m = steps_fault ns k ≡ steps_fault ms m
