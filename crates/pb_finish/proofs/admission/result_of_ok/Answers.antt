use Rattle.std.proofs.Common.{◌≡◌, Some, None, option_map, sym, ap, ◌∙◌}
use Rattle.pb_language.specs.Give.{with_own}
use Rattle.pb_sig.specs.ModuleView.{known_view}
use Rattle.pb_value.specs.View.{view}
use Rattle.pb_start.specs.Blocks.{block_fields}
use Rattle.pb_finish.specs.Facts.{fields_in}
use Rattle.pb_finish.proofs.Admissions.{own-some, own-none}
use Rattle.pb_finish.proofs.admission.result_of_ok.Goals as goal

pub returns-in_ok-result-in-Some : goal.returns-in_ok-result-in-Some
returns-in_ok-result-in-Some c = λ r.
    let fs = block_fields c.in-Some.fields.now in
    let told : Some fs ≡ fields_in (Some (view c.args.value.now)) = sym (ap (option_map (λ r. block_fields r.now)) c.in-Some.is) ∙ c.record_in.ensures in
    own-some (option_map view c.args.pass.now.item) (known_view c.args.«module».now) (view c.args.value.now) fs r told ∙ ap (λ o. with_own o r) (sym c.in_ok-result-in-Some.ensures)

pub returns-in-None : goal.returns-in-None
returns-in-None c = λ r.
    let told : None ≡ fields_in (Some (view c.args.value.now)) = sym (ap (option_map (λ r. block_fields r.now)) c.in-None.is) ∙ c.record_in.ensures in
    own-none (option_map view c.args.pass.now.item) (known_view c.args.«module».now) (view c.args.value.now) (λ own. with_own own r) told
