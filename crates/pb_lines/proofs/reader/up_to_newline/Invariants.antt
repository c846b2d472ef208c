use Rattle.std.proofs.Common.{take}
use Rattle.pb_lines.specs.Lines.{IsLine}
use Rattle.pb_lines.proofs.reader.up_to_newline.Given as goal

abbrev pub invariant-loop-i : goal.invariant-loop-i
invariant-loop-i l = IsLine (take l.i l.text)
