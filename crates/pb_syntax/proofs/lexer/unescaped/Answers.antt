-- A turn of the loop that puts letters for escapes.
use Rattle.std.proofs.Common.{ℕ, [], ◌∷◌, ◌++◌, Vec, Global, Option, slice_index, ap, ◌∙◌, arith}
use Rattle.std.specs.Option.{unwrap_or}
use Rattle.pb_syntax.proofs.Meanings.{plain-kept, open-kept, escape-kept}
use Rattle.pb_syntax.proofs.lexer.unescaped.Goals as goal
use Rattle.pb_syntax.proofs.lexer.unescaped.Goals.{then-is_escaped+in_ok-push, else-is_escaped+then-byte-eq92, else-is_escaped+else-byte-eq92+in_ok-push-2}

pub loop-byte-preserved : goal.loop-byte-preserved
loop-byte-preserved c =
    let inside = c.args.inside.now in let at = c.loop-byte.byte-index in
    let done = c.loop-byte.letters.items in let now = c.if-is_escaped.letters.items in let was = c.loop-byte.is_escaped in let is = c.if-is_escaped.is_escaped in
    let items = λ (v : Vec ℕ Global). v.items in
    elim c.if-is_escaped.branch [
      | then-is_escaped+in_ok-push w ↦
          escape-kept done now inside at was is (omega arith) w.if-is_escaped.true
          (ap items w.letters-is ∙ w.in_ok-push.ensures.items
          ∙ ap (λ l. done ++ l ∷ []) (w.unwrap_or.ensures ∙ ap (λ (o : Option ℕ). unwrap_or o (slice_index inside at)) w.letter_of.ensures))
          w.is_escaped-is c.loop-byte.invariant
      | else-is_escaped+then-byte-eq92 w ↦
          open-kept done now inside at was is (omega arith) w.if-byte-eq92.true w.if-is_escaped.false (ap items w.letters-is) w.is_escaped-is c.loop-byte.invariant
      | else-is_escaped+else-byte-eq92+in_ok-push-2 w ↦
          plain-kept done now inside at was is (omega arith) w.if-byte-eq92.false w.if-is_escaped.false (ap items w.letters-is ∙ w.in_ok-push-2.ensures.items) w.is_escaped-is
          c.loop-byte.invariant
    ]
