use Rattle.std.proofs.Common.{◌≡◌, [], ◌∷◌, ◌++◌, sym, ap, ◌∙◌, subst, append_assoc, string_bytes, string_cmp}
use Rattle.std.proofs.lemmas.List.{append-nil}
use Rattle.std.specs.List.Sorted.{IsStrictlySortedBy}
use Rattle.std.specs.Map.{keys_of}
use Rattle.pb_semantics.specs.Data.{field_value}
use Rattle.pb_language.specs.Cases.{after_prefix, fact_prefix}
use Rattle.pb_language.specs.Give.{stripped}
use Rattle.pb_kind.specs.KindView.{slots_view}
use Rattle.pb_value.specs.View.{fields_view}
use Rattle.pb_finish.specs.Facts.{put_fact}
use Rattle.pb_finish.proofs.FactChanges.{Named, stripped-last}
use Rattle.pb_finish.proofs.gathered.strip_prefixes.Goals as goal

pub loop-name-preserved : goal.loop-name-preserved
loop-name-preserved c =
    let inv = c.loop-name.invariant in
    let done = inv.0 in
    let e : Named = (c.in-Some.name.now, c.in-Some.field-0-1.now) in
    let left = c.next.new.self in
    let facts = fields_view c.args.facts.now.entries in
    let all : c.args.named.now.entries ≡ done ++ e ∷ left = inv.1 ∙ ap (λ es. done ++ es) c.in-Some.ensures.steps in
    let last = stripped-last done e left facts (subst (λ es. IsStrictlySortedBy string_cmp (keys_of es)) all c.iter-name-items.ensures.ordered) in (
      done ++ e ∷ [],
      all ∙ sym (append_assoc done (e ∷ []) left),
      c.in_ok-put_bare.ensures ∙ ap (λ n. put_fact (after_prefix fact_prefix n) (field_value n facts) (fields_view c.loop-name.all.entries)) c.as_str.ensures.value ∙ ap (put_fact (after_prefix fact_prefix (string_bytes e.0)) (field_value (string_bytes e.0) facts)) inv.2 ∙ sym last,
    )

pub returns : goal.returns
returns c =
    let inv = c.loop-name.invariant in
    let nil : c.loop-name.name-iterator ≡ [] = (c.in-None.ensures).steps.0 in
    let same : c.args.named.now.entries ≡ inv.0 = inv.1 ∙ ap (λ es. inv.0 ++ es) nil ∙ append-nil inv.0 in
    inv.2 ∙ ap (λ es. stripped (slots_view es) (fields_view c.args.facts.now.entries)) (sym same)
