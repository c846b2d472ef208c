-- What a fault says of the tree that was to be read.
use Rattle.std.specs.Prelude.{Option, Some, None}
use Rattle.pb_syntax.specs.declared.fault.ExprFault.{ExprFault}
use Rattle.pb_syntax.specs.declared.fault.ExprFault.TheVariants.{Unreadable, TooDeep, NoMemory}

-- there is none, or it is want of memory
abbrev pub no_tree : {D : Type 0} → ExprFault → Option (Option D)
no_tree (Unreadable at) = Some None
no_tree TooDeep = Some None
no_tree NoMemory = None
