use Rattle.std.proofs.Common.{is_some, sym, ap, ◌∙◌}
use Rattle.pb_kind.proofs.GrowLemmas.{found_listed}
use Rattle.pb_value.proofs.Fields.{is_some-option_map}
use Rattle.pb_kind.proofs.grow.has_kind.Goals as goal

pub returns : goal.returns
returns c =
    c.is_some.ensures ∙ sym (is_some-option_map (λ x. x.now) c.get.result) ∙ ap is_some c.get.ensures.value ∙ found_listed c.args.name.now c.args.kinds.now.entries
