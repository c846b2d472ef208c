-- Which fault of a value a fault of an expression in it is.
use Rattle.std.specs.Prelude.{Option, Some, None}
use Rattle.pb_syntax.specs.declared.fault.ExprFault.{ExprFault}
use Rattle.pb_syntax.specs.declared.fault.ExprFault.TheVariants as expr
use Rattle.pb_template.specs.declared.fault.TemplateFault.{TemplateFault}
use Rattle.pb_template.specs.declared.fault.TemplateFault.TheVariants.{Unreadable, NoMemory}

abbrev pub from_expr : ExprFault → TemplateFault
from_expr (expr.Unreadable i) = Unreadable
from_expr expr.TooDeep = Unreadable
from_expr expr.NoMemory = NoMemory

-- the definition gives nothing, or it is want of memory
abbrev pub refused : {D : Type 0} → TemplateFault → Option (Option D)
refused Unreadable = Some None
refused NoMemory = None
