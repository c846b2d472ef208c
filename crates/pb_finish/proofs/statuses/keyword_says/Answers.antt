use Rattle.std.proofs.Common.{◌≡◌, true, refl, ap, ◌∙◌}
use Rattle.pb_semantics.specs.Data.{field_value}
use Rattle.pb_semantics.specs.Keeps.{flag_is}
use Rattle.pb_start.specs.Blocks.{block_fields}
use Rattle.pb_finish.proofs.Statused.{flag-of}
use Rattle.pb_finish.proofs.statuses.keyword_says.Goals as goal

pub returns-in-Some : goal.returns-in-Some
returns-in-Some g c = rw (c.in-Some.is, ← c.deref.ensures.value) c.conditions_hold.ensures

pub returns-in-None : goal.returns-in-None
returns-in-None g c = λ t d x is.
    let flag : c.is_true.result ≡ flag_is true (field_value c.args.name.now (block_fields c.args.item.now.fields)) = c.is_true.ensures ∙ ap (flag_is true) c.field_of.ensures ∙ rw (c.deref-in-None-2.ensures, c.deref-in-None.ensures) refl in
    flag ∙ flag-of (flag_is true (field_value c.args.name.now (block_fields c.args.item.now.fields))) x (rw c.in-None.is at is)
