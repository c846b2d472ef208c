use Rattle.std.proofs.Common.{pos, ap, ◌∙◌}
use Rattle.pb_semantics.specs.Data.{int}
use Rattle.pb_eval.proofs.Turns.{items_count}
use Rattle.pb_eval.proofs.filter.items_counted.Goals as goal

pub returns : goal.returns
returns c = c.number.ensures ∙ ap (λ n. int (pos n)) (items_count c.args.items.now)
