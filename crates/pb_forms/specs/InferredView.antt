-- What is found of operands, items and parts.
use Rattle.std.specs.Prelude.{List, [], ◌∷◌, Bool, true, not, ◌&&◌, Option, None, option_map}
use Rattle.pb_semantics.specs.Kind.{KindData, never}
use Rattle.pb_semantics.specs.Join.{join}
use Rattle.pb_language.specs.Fit.{Fault, asks, first, is_any, is_boolean, is_plain_kind}
use Rattle.pb_language.specs.Fit.{wrong_kind}
use Rattle.pb_kind.specs.KindView.{kind_view}
use Rattle.pb_forms.specs.FitView.{fault_view}
use Rattle.pb_forms.specs.declared.inferred.Inferred.{Inferred}

abbrev pub fault_in : Inferred → Option Fault
fault_in i = option_map fault_view i.unfit

-- the first fault of them
abbrev pub faults_in : List Inferred → Option Fault
faults_in [] = None
faults_in (i ∷ is) = first (fault_in i) (faults_in is)

-- the same where none may be of every kind
abbrev pub part_fault : Inferred → Option Fault
part_fault i = first (fault_in i) (asks wrong_kind (not (is_any (kind_view i.kind))))

abbrev pub part_faults_in : List Inferred → Option Fault
part_faults_in [] = None
part_faults_in (i ∷ is) = first (part_fault i) (part_faults_in is)

abbrev pub are_bools : List Inferred → Bool
are_bools [] = true
are_bools (i ∷ is) = is_boolean (kind_view i.kind) && are_bools is

abbrev pub are_plain_kinds : List Inferred → Bool
are_plain_kinds [] = true
are_plain_kinds (i ∷ is) = is_plain_kind (kind_view i.kind) && are_plain_kinds is

abbrev pub joined_in : List Inferred → KindData
joined_in [] = never
joined_in (i ∷ is) = join (kind_view i.kind) (joined_in is)
