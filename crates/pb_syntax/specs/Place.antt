-- Places in a text.
use Rattle.std.specs.Prelude.{ℕ}
use Rattle.pb_syntax.specs.declared.fault.ExprFault.{ExprFault}
use Rattle.pb_syntax.specs.declared.fault.ExprFault.TheVariants.{Unreadable, TooDeep, NoMemory}
use Rattle.pb_syntax.specs.declared.lexer.Sort.{Sort}
use Rattle.pb_syntax.specs.declared.lexer.Sort.TheVariants as sort

-- the place that a fault names, 0 where it names none
abbrev pub place_of : ExprFault → ℕ
place_of (Unreadable at) = at
place_of TooDeep = 0
place_of NoMemory = 0

-- the least number of bytes of a token of that sort
abbrev pub least_width : Sort → ℕ
least_width sort.End = 0
least_width sort.Text = 2
least_width s = 1
