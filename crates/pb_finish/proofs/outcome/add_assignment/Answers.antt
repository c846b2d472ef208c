use Rattle.std.proofs.Common.{refl, ap, ◌∙◌}
use Rattle.pb_semantics.specs.Data.{put_all}
use Rattle.pb_value.specs.View.{fields_view}
use Rattle.pb_finish.proofs.Written.{put_all-push}
use Rattle.pb_finish.proofs.outcome.add_assignment.Goals as goal

pub returns-in_ok-push-in-Some : goal.returns-in_ok-push-in-Some
returns-in_ok-push-in-Some c = λ vars.
    let old = c.args.writes.now.items in
    let past = put_all (fields_view old) vars in
    ap (λ ws. put_all (fields_view ws) vars) c.in_ok-push-in-Some.ensures.items ∙ put_all-push old (c.in_ok-name-in-Some.name, c.in_ok-copy-in-Some.copy) vars
    ∙ rw (c.in_ok-name-in-Some.ensures.cases, c.in_ok-copy-in-Some.ensures.cases, c.in-Some.is) refl
