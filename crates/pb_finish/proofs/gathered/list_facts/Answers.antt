use Rattle.std.proofs.Common.{◌≡◌, [], option_map, string_bytes, sym, ap, ap₂, ◌∙◌}
use Rattle.pb_semantics.specs.Data.{field_value}
use Rattle.pb_language.specs.Give.{facts_changed}
use Rattle.pb_language.specs.Start.{change}
use Rattle.pb_kind.specs.KindView.{slots_view}
use Rattle.pb_value.specs.View.{view, fields_view}
use Rattle.pb_finish.specs.Results.{changes_view}
use Rattle.pb_finish.proofs.FactChanges.{append_changes, append_changes-none, append_changes-push}
use Rattle.pb_finish.proofs.gathered.list_facts.Goals as goal

pub loop-name-preserved : goal.loop-name-preserved
loop-name-preserved c =
    let fs = fields_view c.args.facts.now.entries in
    let all = c.loop-name.all.items in
    let rest = facts_changed (slots_view c.next.new.self) fs in
    let name = string_bytes c.in-Some.name.now in
    let named : string_bytes c.in_ok-name.name ≡ name = c.in_ok-name.ensures.cases in
    let fact : option_map view c.in_ok-value.value ≡ field_value name fs = c.in_ok-value.ensures ∙ c.field_of.ensures ∙ ap (λ n. field_value n fs) c.as_str.ensures.value in
    ap (λ xs. append_changes (changes_view xs) rest) c.in_ok-push-2.ensures.items
    ∙ append_changes-push all (record { name = c.in_ok-name.name; value = c.in_ok-value.value }) rest
    ∙ ap₂ (λ n o. append_changes (changes_view all) (change n o rest)) named fact
    ∙ sym (ap (λ es. append_changes (changes_view all) (facts_changed (slots_view es) fs)) c.in-Some.ensures.steps) ∙ c.loop-name.invariant

pub returns : goal.returns
returns c =
    let fs = fields_view c.args.facts.now.entries in
    let all = changes_view c.loop-name.all.items in
    let nil : c.loop-name.name-iterator ≡ [] = (c.in-None.ensures).steps.0 in
    sym (append_changes-none all) ∙ ap (λ es. append_changes all (facts_changed (slots_view es) fs)) (sym nil) ∙ c.loop-name.invariant
