use Rattle.std.proofs.Common.{◌≡◌, ◌++◌, ◌∙◌, map, sym, ap, append-nil}
use Rattle.pb_slots.specs.Words.{names_of_slots}
use Rattle.pb_steps.specs.Numbers.{slots_named}
use Rattle.pb_steps.proofs.Used.{slots-left}
use Rattle.pb_steps.proofs.uses.slots_of.Goals as goal

pub loop-name-init : goal.loop-name-init
loop-name-init c =
    let names = names_of_slots c.args.slots.now in
    ap (λ xs. xs ++ slots_named names (map (λ n. n.now) c.into_iter-name-iterator.result)) c.in_ok-found.ensures.items
    ∙ ap (λ ks. slots_named names (map (λ n. n.now) ks)) (c.into_iter-name-iterator.ensures.into_iter_gives ∙ c.iter-name-items.ensures.rest)

pub loop-name-preserved : goal.loop-name-preserved
loop-name-preserved c =
    let l = c.loop-name in
    let names = names_of_slots c.args.slots.now in
    slots-left names c.in-Some.name.now.now (map (λ n. n.now) c.next.new.self) l.found.items c.add_slot.new.found.items (slots_named names (map (λ n. n.now) c.args.names.now.keys)) c.in_ok-add_slot.ensures
    (ap (λ ks. l.found.items ++ slots_named names (map (λ n. n.now) ks)) (sym c.in-Some.ensures.steps) ∙ l.invariant)

pub returns : goal.returns
returns c =
    let l = c.loop-name in
    let names = names_of_slots c.args.slots.now in
    sym (append-nil l.found.items) ∙ ap (λ ks. l.found.items ++ slots_named names (map (λ n. n.now) ks)) (sym c.in-None.ensures.steps.0) ∙ l.invariant
