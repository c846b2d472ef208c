-- What finding a kind gives.
use Rattle.std.specs.Prelude.{Option, Some, None}
use Rattle.pb_language.specs.Fit.{Fault}
use Rattle.pb_forms.specs.FitView.{fault_view}
use Rattle.pb_expr.specs.declared.fit.KindFault.{KindFault}
use Rattle.pb_expr.specs.declared.fit.KindFault.TheVariants as fault

-- the fault that is found where this one is given, none for want of memory
abbrev pub fault_found : KindFault → Option (Option Fault)
fault_found (fault.Unfit u) = Some (Some (fault_view u))
fault_found fault.NoMemory = None
