use Rattle.std.proofs.Common.{refl, ap, ◌∙◌}
use Rattle.pb_semantics.specs.Data.{boolean}
use Rattle.pb_value.proofs.Views.{view-Rec, view-Text}
use Rattle.pb_syntax.proofs.Exprs.{view-Bool}
use Rattle.pb_eval.proofs.eval.membership.Goals as goal

pub returns-in-Text-Rec : goal.returns-in-Text-Rec
returns-in-Text-Rec c =
    let p = c.in-Text-Rec in
    rw (p.is-0, p.is-1, view-Rec p.fields, view-Text p.name, view-Bool) (ap boolean (c.has_field.ensures ∙ rw (c.as_str-in-Text-Rec.ensures.value, c.deref-in-Text-Rec-2.ensures, c.deref-in-Text-Rec.ensures, c.deref-in-Text-Rec-3.ensures) refl))
