use Rattle.std.proofs.Common.{◌≡◌, ◌∙◌, ◌++◌, Vec, Global, string_bytes, codes, false, true, rules, Some, map, sym, ap}
use Rattle.std.proofs.lemmas.List.{map_push}
use Rattle.std.specs.Str.{bytes_eq}
use Rattle.pb_language.specs.Written.{groups_in, named_group}
use Rattle.pb_value.specs.View.{view, fields_view}
use Rattle.pb_value.proofs.Fields.{Entry}
use Rattle.pb_inventory.specs.Documents.{formed, written_view}
use Rattle.pb_inventory.specs.declared.document.Written.{Written}
use Rattle.pb_inventory.proofs.Formed.{and_first, before, before-none, before-all, before-push, and_first-none, formed-ok, Gives-formed}
use Rattle.pb_inventory.specs.Numbered.{are_apart, written_names}
use Rattle.pb_inventory.proofs.Grouped.{apart-ended, apart-pushed, apart-sorted, apart-without, entry_names, groups_in-meta, groups_in-group}
use Rattle.pb_inventory.proofs.document.groups_in.Goals as goal

pub returns-in_err-named_group-clause-given : goal.returns-in_err-named_group-clause-given
returns-in_err-named_group-clause-given c =
    let l = c.loop-name in
    let e : Entry = (c.in-Some.name.now, c.in-Some.value.now) in
    let left = c.next.new.self in
    let rest = groups_in (fields_view left) in
    let done = map written_view l.groups.items in
    let group : bytes_eq (string_bytes e.0) (codes "_meta") ≡ false = ap (λ n. bytes_eq n (codes "_meta")) (sym c.as_str.ensures.value) ∙ sym c.is_meta.ensures ∙ c.if-is_meta.false in
    Gives-formed (λ (ws : Vec Written Global). map written_view ws.items) _ _ (named_group c.as_str-in-loop-name.result.now (view e.1)) (groups_in (fields_view c.args.fields.now.entries)) c.from_residual-in_err-named_group.ensures.1
    c.in_err-named_group.ensures.given
    (λ none. l.invariant.given ∙ ap (λ es. before done (groups_in (fields_view es))) c.in-Some.ensures.steps
    ∙ ap (before done) (groups_in-group e left group ∙ ap (λ x. and_first x rest) (ap (λ n. named_group n (view e.1)) (sym c.as_str-in-loop-name.ensures.value) ∙ none) ∙ and_first-none rest) ∙ before-none done)

pub loop-name-init : goal.loop-name-init
loop-name-init c = record {
  given = search rules;
  apart = rw (c.in_ok-groups.ensures.items, c.into_iter-name-iterator.ensures.into_iter_gives, c.iter-name-items.ensures.rest) (apart-sorted c.args.fields.now.entries c.iter-name-items.ensures.ordered);
}

pub loop-name-preserved-then-is_meta : goal.loop-name-preserved-then-is_meta
loop-name-preserved-then-is_meta c =
    let l = c.loop-name in
    let e : Entry = (c.in-Some.name.now, c.in-Some.value.now) in
    let left = c.next.new.self in
    let done = map written_view l.groups.items in
    let meta : bytes_eq (string_bytes e.0) (codes "_meta") ≡ true = ap (λ n. bytes_eq n (codes "_meta")) (sym c.as_str.ensures.value) ∙ sym c.is_meta.ensures ∙ c.if-is_meta.true in
    record {
      given = l.invariant.given ∙ ap (λ es. before done (groups_in (fields_view es))) c.in-Some.ensures.steps ∙ ap (before done) (groups_in-meta e left meta);
      apart = apart-without (written_names done) (string_bytes e.0) (entry_names left) (ap (λ es. are_apart (written_names done ++ entry_names es)) (sym c.in-Some.ensures.steps) ∙ l.invariant.apart);
    }

pub loop-name-preserved : goal.loop-name-preserved
loop-name-preserved c =
    let l = c.loop-name in
    let e : Entry = (c.in-Some.name.now, c.in-Some.value.now) in
    let left = c.next.new.self in
    let rest = groups_in (fields_view left) in
    let done = map written_view l.groups.items in
    let w = c.in_ok-named_group.field-0 in
    let group : bytes_eq (string_bytes e.0) (codes "_meta") ≡ false = ap (λ n. bytes_eq n (codes "_meta")) (sym c.as_str.ensures.value) ∙ sym c.is_meta.ensures ∙ c.if-is_meta.false in
    let found : named_group (string_bytes e.0) (view e.1) ≡ Some (written_view w) = formed-ok _ _ (ap (λ n. formed (named_group n (view e.1))) (sym c.as_str-in-loop-name.ensures.value) ∙ c.in_ok-named_group.ensures.given) in
    let name : string_bytes w.name.value ≡ string_bytes e.0 = c.in_ok-named_group.ensures.name ∙ c.as_str-in-loop-name.ensures.value in
    let all = ap (map written_view) c.in_ok-push.ensures.items ∙ map_push written_view l.groups.items w in
    record {
      given = l.invariant.given ∙ ap (λ es. before done (groups_in (fields_view es))) c.in-Some.ensures.steps ∙ ap (before done) (groups_in-group e left group ∙ ap (λ x. and_first x rest) found) ∙ before-push done (written_view w) rest
          ∙ ap (λ ws. before ws rest) (sym all);
      apart = ap (λ ws. are_apart (written_names ws ++ entry_names left)) all ∙ apart-pushed done (written_view w) (string_bytes e.0) (entry_names left) name (ap (λ es. are_apart (written_names done ++ entry_names es)) (sym c.in-Some.ensures.steps) ∙ l.invariant.apart);
    }

pub returns : goal.returns
returns c =
    let l = c.loop-name in
    let done = map written_view l.groups.items in
    record {
      given = ap formed (l.invariant.given ∙ ap (λ es. before done (groups_in (fields_view es))) c.in-None.ensures.steps.0 ∙ before-all done);
      apart = apart-ended (written_names done) (ap (λ es. are_apart (written_names done ++ entry_names es)) (sym c.in-None.ensures.steps.0) ∙ l.invariant.apart);
    }
