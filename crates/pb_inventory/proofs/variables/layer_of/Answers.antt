use Rattle.std.proofs.Common.{◌≡◌, ◌∙◌, ◌∷◌, string_bytes, string_cmp, false, true, sym, ap, subst}
use Rattle.std.specs.List.Sorted.{IsStrictlySortedBy}
use Rattle.std.specs.Map.{keys_of}
use Rattle.pb_semantics.specs.Data.{put_field}
use Rattle.pb_semantics.specs.Keeps.{is_among}
use Rattle.pb_language.specs.Inventories.{overlaid, variable_of}
use Rattle.pb_language.specs.Rules.{reserved_names}
use Rattle.pb_value.proofs.Fields.{Entry}
use Rattle.pb_value.specs.View.{view, fields_view}
use Rattle.pb_inventory.specs.Views.{laid}
use Rattle.pb_inventory.proofs.Overlays.{IsNext, next-passed, next-put, overlaid-passed, overlaid-put, still_sorted}
use Rattle.pb_inventory.proofs.variables.layer_of.Goals as goal

pub loop-name-preserved-in_ok-put_field : goal.loop-name-preserved-in_ok-put_field
loop-name-preserved-in_ok-put_field c =
    let l = c.loop-name in
    let e : Entry = (c.in-Some.name.now, c.in-Some.value.now) in
    let left = c.next.new.self in
    let so_far = fields_view l.layer.entries in
    let step : l.name-iterator ≡ e ∷ left = c.in-Some.ensures.steps in
    let sorted = subst (λ es. IsStrictlySortedBy string_cmp (keys_of es)) step l.invariant.sorted in
    let above = l.invariant.next e left step in
    let free : is_among (string_bytes e.0) reserved_names ≡ false = ap (λ n. is_among n reserved_names) (sym c.as_str.ensures.value) ∙ sym c.is_reserved.ensures ∙ c.if-not-is_reserved.true in
    let put : fields_view c.put_field.new.fields.entries ≡ put_field (string_bytes e.0) (variable_of (view e.1)) so_far =
    c.in_ok-put_field.ensures ∙ ap (λ n. put_field n (view c.in_ok-variable_of.field-0) so_far) c.in_ok-clone.ensures.cases ∙ ap (λ d. put_field (string_bytes e.0) d so_far) c.in_ok-variable_of.ensures in
    record {
      sorted = still_sorted e left sorted;
      next = subst (λ fs. IsNext fs left) (sym put) (next-put e left (variable_of (view e.1)) so_far sorted above);
      laid = λ vs. ap (λ fs. overlaid (laid vs fs) (fields_view left)) put ∙ overlaid-put e left so_far vs above free ∙ ap (λ es. overlaid (laid vs so_far) (fields_view es)) (sym step) ∙ l.invariant.laid vs;
    }

pub loop-name-preserved : goal.loop-name-preserved
loop-name-preserved c =
    let l = c.loop-name in
    let e : Entry = (c.in-Some.name.now, c.in-Some.value.now) in
    let left = c.next.new.self in
    let so_far = fields_view l.layer.entries in
    let step : l.name-iterator ≡ e ∷ left = c.in-Some.ensures.steps in
    let sorted = subst (λ es. IsStrictlySortedBy string_cmp (keys_of es)) step l.invariant.sorted in
    let taken : is_among (string_bytes e.0) reserved_names ≡ true = ap (λ n. is_among n reserved_names) (sym c.as_str.ensures.value) ∙ sym c.is_reserved.ensures ∙ c.if-not-is_reserved.false in
    record {
      sorted = still_sorted e left sorted;
      next = next-passed e left so_far sorted (l.invariant.next e left step);
      laid = λ vs. overlaid-passed e left so_far vs taken ∙ ap (λ es. overlaid (laid vs so_far) (fields_view es)) (sym step) ∙ l.invariant.laid vs;
    }
