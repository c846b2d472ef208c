use Rattle.std.proofs.lemmas.Bool.{cases_from_iff}
use Rattle.std.proofs.lemmas.Str.Pattern.{contains_text}
use Rattle.pb_eval.proofs.Equality.{is_part-test}
use Rattle.pb_eval.proofs.eval.has_part.Goals as goal

pub returns : goal.returns
returns c =
    is_part-test c.contains.result c.args.part.now c.args.text.now
    (cases_from_iff (contains_text c.contains.result c.args.part.now c.args.text.now c.contains.ensures.cases))
