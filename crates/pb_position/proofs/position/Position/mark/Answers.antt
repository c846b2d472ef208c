use Rattle.std.proofs.Common.{◌<◌, ℕ, length, take, get_or, set, false, true, List, ap, sym, ◌∙◌, ◌||◌, arith}
use Rattle.std.proofs.lemmas.List.{take_more}
use Rattle.std.proofs.Math.ListN.{length-set}
use Rattle.pb_language.specs.Machine.{is_marked}
use Rattle.std.proofs.lemmas.List.Elements.{All-get_or}
use Rattle.pb_position.proofs.Marks.{one_more_is_marked}
use Rattle.pb_position.proofs.position.Position.mark.Goals as goal

pub loop-number-preserved : goal.loop-number-preserved
loop-number-preserved c =
    let xs = c.args.notified.now.items in
    let i = c.loop-number.number-index in
    let same = c.deref-number-items.ensures.value in
    let within : i < length xs = omega (arith, ap length same) in
    let few : get_or xs i 0 < length c.loop-number.self.marks.items = omega (arith, c.loop-number.invariant.handlers, All-get_or (λ n. n < length c.args.self.now.marks.items) xs i 0 within c.requires) in record {
      marked = λ n.
          ap (λ (ys : List ℕ). get_or (set c.loop-number.self.marks.items (get_or ys i 0) true) n false) same
          ∙ one_more_is_marked c.loop-number.self.marks.items (take i xs) (get_or xs i 0) n (get_or c.args.self.now.marks.items n false) few (c.loop-number.invariant.marked n)
          ∙ ap (λ ys. is_marked n ys || get_or c.args.self.now.marks.items n false) (sym (take_more xs i 0 within));
      rest = c.loop-number.invariant.rest;
      handlers = length-set c.loop-number.self.marks.items _ true ∙ c.loop-number.invariant.handlers;
    }
