use Rattle.std.proofs.Common.{◌≡◌, [], ap, sym, ◌∙◌}
use Rattle.pb_semantics.specs.Data.{put_all}
use Rattle.pb_value.specs.View.{fields_view}
use Rattle.pb_value.proofs.Appended.{append_fields-none}
use Rattle.pb_value.specs.Append.{append_fields}
use Rattle.pb_finish.proofs.Written.{append_fields-push, put_all-append, put_all-changes}
use Rattle.pb_finish.proofs.outcome.add_facts.Goals as goal

pub loop-name-preserved : goal.loop-name-preserved
loop-name-preserved c =
    let ws = c.loop-name.writes.items in
    let left = fields_view c.next.new.self in
    ap (λ xs. append_fields (fields_view xs) left) c.in_ok-push.ensures.items ∙ append_fields-push ws (c.in_ok-clone.field-0, c.in_ok-clone-2.field-0) left
    ∙ rw (c.in_ok-clone.ensures.cases, c.in_ok-clone-2.ensures.cases) (ap (λ es. append_fields (fields_view ws) (fields_view es)) (sym c.in-Some.ensures.steps) ∙ c.loop-name.invariant)

pub returns : goal.returns
returns c = λ vars.
    let ws = fields_view c.loop-name.writes.items in
    let nil : c.loop-name.name-iterator ≡ [] = (c.in-None.ensures).steps.0 in
    let old = fields_view c.args.writes.now.items in
    let facts = fields_view c.args.facts.now.entries in
    ap (λ xs. put_all xs vars) (sym (append_fields-none ws) ∙ ap (λ es. append_fields ws (fields_view es)) (sym nil) ∙ c.loop-name.invariant)
    ∙ put_all-append old facts vars ∙ put_all-changes facts (put_all old vars)
