use Rattle.std.proofs.Common.{pos, ap, ◌∙◌}
use Rattle.pb_semantics.specs.Data.{int}
use Rattle.pb_eval.proofs.Turns.{fields_count}
use Rattle.pb_eval.proofs.filter.fields_counted.Goals as goal

pub returns : goal.returns
returns c = c.number.ensures ∙ ap (λ n. int (pos n)) (c.len.ensures.len ∙ fields_count c.args.fields.now.entries)
