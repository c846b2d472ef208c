use Rattle.std.proofs.Common.{◌∙◌, true≢false, sym}
use Rattle.pb_inventory.proofs.Named.{is_group_form-empty, is_group_form-keyed}
use Rattle.pb_inventory.proofs.document.is_group_form.Goals as goal

pub returns-then-is_empty : goal.returns-then-is_empty
returns-then-is_empty c = is_group_form-empty c.args.fields.now.entries (c.is_empty.ensures.0 c.if-is_empty.true)

pub returns : goal.returns
returns c = c.has_group_key.ensures ∙ is_group_form-keyed c.args.fields.now.entries (λ none. true≢false (sym (c.is_empty.ensures.1 none) ∙ c.if-is_empty.false))
