use Rattle.std.proofs.Common.{◌∙◌, option_map, ap, sym}
use Rattle.pb_task.specs.Offences.{number_of}
use Rattle.pb_value.specs.View.{fields_view}
use Rattle.pb_play.specs.Plays.{head_view}
use Rattle.pb_play.proofs.Heads.{block-large, block-misformed, block-said, block-small, block-unread}
use Rattle.pb_play.proofs.Refusals.{of-text}
use Rattle.pb_play.proofs.block.head_in.Goals as goal

pub returns-in-Some-clause-given : goal.returns-in-Some-clause-given
returns-in-Some-clause-given c =
    rw c.at.ensures (block-misformed c.args.depth c.args.line (number_of c.in-Some.code) (fields_view c.args.fields.now.entries) (sym c.block_form_offence.ensures ∙ ap (option_map number_of) c.in-Some.is))

pub returns-in-Err-clause-given : goal.returns-in-Err-clause-given
returns-in-Err-clause-given c =
    let form = sym c.block_form_offence.ensures ∙ ap (option_map number_of) c.in_default.is in
    of-text c.args.line c.in-Err.fault c.of_text.result _ _ c.of_text.ensures c.in-Err.ensures (λ none. block-unread c.args.depth c.args.line (fields_view c.args.fields.now.entries) form none)

pub returns-then-is_large-clause-given : goal.returns-then-is_large-clause-given
returns-then-is_large-clause-given c =
    let form = sym c.block_form_offence.ensures ∙ ap (option_map number_of) c.in_default.is in
    rw c.at-then-is_large.ensures (block-large c.args.depth c.args.line (fields_view c.args.fields.now.entries) (head_view c.in-Ok.head) form c.in-Ok.ensures (sym c.is_large.ensures ∙ c.if-is_large.true))

pub returns-clause-given : goal.returns-clause-given
returns-clause-given c =
    let form = sym c.block_form_offence.ensures ∙ ap (option_map number_of) c.in_default.is in
    block-said c.args.depth c.args.line (fields_view c.args.fields.now.entries) (head_view c.in-Ok.head) form c.in-Ok.ensures (sym c.is_large.ensures ∙ c.if-is_large.false)

pub returns-clause-within : goal.returns-clause-within
returns-clause-within c = block-small c.args.depth c.args.line (fields_view c.args.fields.now.entries) (sym c.is_large.ensures ∙ c.if-is_large.false)
