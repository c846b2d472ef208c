use Rattle.std.proofs.Common.{◌∙◌, option_map, ap, sym}
use Rattle.pb_task.specs.Offences.{number_of}
use Rattle.pb_template.specs.Entries.{entries_view}
use Rattle.pb_value.specs.View.{fields_view}
use Rattle.pb_play.proofs.Heads.{play-large, play-misformed, play-small, play-unread}
use Rattle.pb_play.proofs.Refusals.{of-text}
use Rattle.pb_play.proofs.head.play_head.Goals as goal

pub returns-in-Some-clause-given : goal.returns-in-Some-clause-given
returns-in-Some-clause-given c =
    rw c.at.ensures (play-misformed c.args.earlier c.args.line (number_of c.in-Some.code) (fields_view c.args.fields.now.entries) (sym c.play_form_offence.ensures ∙ ap (option_map number_of) c.in-Some.is))

pub returns-in-Err-clause-given : goal.returns-in-Err-clause-given
returns-in-Err-clause-given c =
    let form = sym c.play_form_offence.ensures ∙ ap (option_map number_of) c.in_default.is in
    of-text c.args.line c.in-Err.fault c.of_text.result _ _ c.of_text.ensures c.in-Err.ensures.given (λ none. play-unread c.args.earlier c.args.line (fields_view c.args.fields.now.entries) form none)

pub returns-then-is_large-clause-given : goal.returns-then-is_large-clause-given
returns-then-is_large-clause-given c =
    let form = sym c.play_form_offence.ensures ∙ ap (option_map number_of) c.in_default.is in
    rw c.at-then-is_large.ensures (play-large c.args.earlier c.args.line (fields_view c.args.fields.now.entries) (entries_view c.in-Ok.vars.items) form c.in-Ok.ensures.given (sym c.is_large.ensures ∙ c.if-is_large.true))

pub returns-clause-within : goal.returns-clause-within
returns-clause-within c = play-small c.args.earlier c.args.line (fields_view c.args.fields.now.entries) (sym c.is_large.ensures ∙ c.if-is_large.false)
