use Rattle.std.proofs.Common.{◌≡◌, ◌≤◌, ◌<◌, ℕ, ap, sym, ◌∙◌, length, take, arith}
use Rattle.pb_position.specs.Texts.{text_of}
use Rattle.pb_position.proofs.Stacks.{innermost_is_last, all_are_taken}
use Rattle.pb_position.proofs.texts.innermost_of.Goals as goal
use Rattle.pb_position.proofs.texts.innermost_of.Goals.{then-count-len, else-count-len}

pub returns : goal.returns
returns c =
    let xs = c.args.texts.now.items in
    let w = c.if-count-len.within in
    let within : (take c.args.count xs ≡ take w xs) × (w ≤ length xs) = elim c.if-count-len.branch [
      | then-count-len b ↦ (ap (λ (n : ℕ). take n xs) (sym b.within-is), omega arith)
      | else-count-len b ↦ (all_are_taken c.args.count w xs (omega arith) (omega arith), omega arith)
    ] in
    let some : 0 < w = omega arith in
    ap text_of c.as_ref.ensures.value ∙ sym (innermost_is_last c.args.count w xs c.index.result.now within.0 some within.1 (sym c.index.ensures))
