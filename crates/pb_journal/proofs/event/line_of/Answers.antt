use Rattle.std.proofs.Common.{Some, option_and_then, ap, ◌∙◌}
use Rattle.pb_semantics.specs.Data.{rec}
use Rattle.pb_value.specs.View.{fields_view}
use Rattle.pb_journal.specs.Said.{said_by, said_of}
use Rattle.pb_journal.proofs.Told.{said_back}
use Rattle.pb_journal.proofs.event.line_of.Goals as goal

pub returns : goal.returns
returns c =
    ap (option_and_then said_of) (c.in_ok-text.ensures ∙ ap Some (c.in_ok-value.ensures ∙ ap rec c.in_ok-put_event.ensures))
    ∙ said_back (said_by c.args.event.now) (fields_view c.args.notes.entries)
