use Rattle.std.proofs.Common.{◌≡◌, drop}
use Rattle.pb_syntax.specs.ExprView.{exprs_view, parts_view}
use Rattle.pb_vars.specs.Reads.{all_every_read, parts_every_read}
use Rattle.pb_vars.proofs.every.+every.Given as goal

abbrev pub invariant-all_every_read-loop-part : goal.invariant-all_every_read-loop-part
invariant-all_every_read-loop-part g l = all_every_read (g.Q.Question.holds l.question) (exprs_view l.parts) ≡ all_every_read (g.Q.Question.holds l.question) (exprs_view (drop l.part-index l.parts))

abbrev pub invariant-fields_every_read-loop-field : goal.invariant-fields_every_read-loop-field
invariant-fields_every_read-loop-field g l = parts_every_read (g.Q.Question.holds l.question) (parts_view l.fields.entries) ≡ parts_every_read (g.Q.Question.holds l.question) (parts_view l.field-iterator)
