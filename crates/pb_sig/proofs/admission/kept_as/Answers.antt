use Rattle.std.proofs.Common.{◌∙◌, ap, codes}
use Rattle.pb_semantics.specs.Data.{boolean, put_field, rec}
use Rattle.pb_sig.specs.AdmissionView.{admission_view}
use Rattle.pb_sig.proofs.Ended.{ended-kept}
use Rattle.pb_sig.proofs.admission.kept_as.Goals as goal

pub returns-in-Rec : goal.returns-in-Rec
returns-in-Rec c =
    let held = c.in_ok-value-in-Rec.ensures ∙ ap rec (c.in_ok-put-in-Rec.ensures ∙ ap (put_field (codes "failed") (boolean c.args.failed)) c.in_ok-own_fields-in-Rec.ensures) in
    ap admission_view c.admitted.ensures ∙ ended-kept c.args.kept c.in-Rec.fields c.in_ok-value-in-Rec.value c.args.failed c.in-Rec.is held
