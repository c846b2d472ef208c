use Rattle.std.proofs.Common.{◌≡◌, Some, None, codes, option_map, sym, ap, ap₂, ◌∙◌}
use Rattle.std.proofs.lemmas.Result.{IfOk-weaker}
use Rattle.pb_semantics.specs.Data.{field_value}
use Rattle.pb_semantics.specs.Kind.{slot_at}
use Rattle.pb_language.specs.Cases.{shape_slots}
use Rattle.pb_kind.specs.KindView.{slots_view}
use Rattle.pb_sig.specs.ModuleView.{known_view}
use Rattle.pb_value.specs.View.{fields_view}
use Rattle.pb_finish.specs.Facts.{facts_when, fields_in, named_in}
use Rattle.pb_finish.specs.Results.{changes_view}
use Rattle.pb_finish.proofs.FactChanges.{facts-when}
use Rattle.pb_finish.proofs.gathered.gather_facts.Goals as goal

pub returns-in-Some : goal.returns-in-Some
returns-in-Some c =
    let s = slot_at (codes "ansible_facts") (shape_slots (known_view c.args.«module».now).ok) in
    let v = field_value (codes "ansible_facts") (fields_view c.args.fields.now.entries) in
    let named : Some (slots_view c.in-Some.named.now.value.parts.entries) ≡ named_in s = sym (ap (option_map (λ r. slots_view r.now.value.parts.entries)) c.in-Some.is) ∙ c.named_facts.ensures in
    IfOk-weaker c.gather_named.result _ _ (λ cs is. is ∙ ap₂ facts_when named (c.record_in.ensures ∙ ap fields_in c.field_of.ensures) ∙ sym (facts-when s v)) c.gather_named.ensures

pub returns-in-None : goal.returns-in-None
returns-in-None c =
    let s = slot_at (codes "ansible_facts") (shape_slots (known_view c.args.«module».now).ok) in
    let v = field_value (codes "ansible_facts") (fields_view c.args.fields.now.entries) in
    let none : None ≡ named_in s = sym (ap (option_map (λ r. slots_view r.now.value.parts.entries)) c.in-None.is) ∙ c.named_facts.ensures in
    ap changes_view c.new.ensures.items ∙ ap (λ o. facts_when o (fields_in v)) none ∙ sym (facts-when s v)
