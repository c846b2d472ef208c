use Rattle.std.proofs.Common.{Vec, Global, ap, ◌∙◌}
use Rattle.pb_value.specs.View.{items_view}
use Rattle.pb_value.specs.declared.value.Value.{Value}
use Rattle.pb_value.proofs.Copies.{items_view-own}
use Rattle.pb_value.proofs.value.own_items.Goals as goal

pub returns : goal.returns
returns c =
    ap (λ (v : Vec Value Global). items_view v.items) c.into_parts.ensures ∙ items_view-own c.args.items.value c.in_ok-unwrap_or_clone.field-0 c.in_ok-unwrap_or_clone.ensures.ok
