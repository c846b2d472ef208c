-- What the loop keeps that puts letters for escapes.
use Rattle.std.proofs.Common.{◌≡◌, ◌++◌, drop}
use Rattle.pb_syntax.specs.Letters.{unescaped}
use Rattle.pb_syntax.proofs.Meanings.{unescaped_after}
use Rattle.pb_syntax.proofs.lexer.unescaped.Given as goal

abbrev pub invariant-loop-byte : goal.invariant-loop-byte
invariant-loop-byte l = l.letters.items ++ unescaped_after l.is_escaped (drop l.byte-index l.inside) ≡ unescaped l.inside
