use Rattle.std.proofs.Common.{◌≡◌, ◌∙◌, List, length, Some, sym, ap, subst, string_bytes, arith}
use Rattle.std.specs.List.{All}
use Rattle.std.specs.Vec.Iter.{into_iter_items}
use Rattle.pb_slots.specs.Slots.{slot_in}
use Rattle.pb_slots.specs.Words.{names_of_slots}
use Rattle.pb_value.specs.Append.{append_fields}
use Rattle.pb_value.specs.View.{fields_view}
use Rattle.pb_world.specs.Writes.{have_slots, slot_fields}
use Rattle.pb_world.proofs.Written.{IsPlaced, Named, Placed, all-found, fields-next, fields-whole, none-left, placed-next}
use Rattle.pb_world.proofs.writes.slots_of_writes.Goals as goal

pub loop-name-preserved : goal.loop-name-preserved
loop-name-preserved c =
    let l = c.loop-name in
    let names = names_of_slots c.args.slots.now in
    let rest = into_iter_items c.next.new.self in
    let steps = c.in-Some.ensures.steps in
    let n = c.in-Some.name in
    let v = c.in-Some.value in
    let s = c.in-Some-slot.slot in
    let at : slot_in names (string_bytes n) ≡ Some s = ap (slot_in names) (sym c.as_str.ensures.value) ∙ sym c.in-Some-slot.ensures in
    let pushed = c.in_ok-push-in-Some-slot.ensures.items in
    record {
      counted = omega (arith, l.invariant.counted, ap (λ (ws : List Named). length ws) steps.0, steps.1);
      found = sym (all-found names n v rest s at) ∙ ap (have_slots names) (sym steps.0) ∙ l.invariant.found;
      placed = subst (All (IsPlaced (length names))) (sym pushed) (placed-next names l.placed.items s v (string_bytes n) at l.invariant.placed);
      named = ap (λ (ws : List Placed). append_fields (slot_fields names ws) (fields_view rest)) pushed ∙ fields-next names l.placed.items s v n rest at
          ∙ ap (λ (ws : List Named). append_fields (slot_fields names l.placed.items) (fields_view ws)) (sym steps.0) ∙ l.invariant.named;
    }

pub returns-clause-named : goal.returns-clause-named
returns-clause-named c =
    let l = c.loop-name in
    let names = names_of_slots c.args.slots.now in
    let over = none-left (into_iter_items l.name-iterator) (l.invariant.counted ∙ c.in-None.ensures.steps.0) in
    sym (fields-whole (slot_fields names l.placed.items)) ∙ ap (λ (ws : List Named). append_fields (slot_fields names l.placed.items) (fields_view ws)) (sym over) ∙ l.invariant.named
