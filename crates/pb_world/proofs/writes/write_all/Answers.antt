use Rattle.std.proofs.Common.{◌≡◌, ◌∙◌, List, length, sym, ap, subst, arith}
use Rattle.std.specs.List.{All}
use Rattle.std.specs.Vec.Iter.{into_iter_items}
use Rattle.std.proofs.lemmas.List.Elements.{All-tail}
use Rattle.pb_facts.specs.Facts.{Held}
use Rattle.pb_slots.specs.Words.{names_of_slots}
use Rattle.pb_world.specs.Variables.{host_variables}
use Rattle.pb_world.specs.Writes.{with_values}
use Rattle.pb_world.proofs.InSlots.{ascending-distinct}
use Rattle.pb_world.proofs.Written.{IsPlaced, Placed, are-written, none-left}
use Rattle.pb_world.proofs.writes.write_all.Goals as goal

pub loop-slot-preserved : goal.loop-slot-preserved
loop-slot-preserved c =
    let l = c.loop-slot in
    let rest = into_iter_items c.next.new.self in
    let steps = c.in-Some.ensures.steps in
    let w : Placed = (c.in-Some.slot, c.in-Some.value) in
    let host = c.args.host in
    let slots : c.set.new.self.slots ≡ l.facts.slots = ap (λ (held : Held). held.slots) c.set.ensures in
    record {
      counted = omega (arith, l.invariant.counted, ap (λ (ws : List Placed). length ws) steps.0, steps.1);
      written = ap (λ held. with_values held host rest) c.set.ensures ∙ ap (with_values l.facts host) (sym steps.0) ∙ l.invariant.written;
      placed = subst (λ n. All (IsPlaced n) rest) (sym slots) (All-tail (IsPlaced l.facts.slots) w rest (subst (All (IsPlaced l.facts.slots)) steps.0 l.invariant.placed));
      hosts = ap (λ (held : Held). held.hosts) c.set.ensures ∙ l.invariant.hosts;
      slots = slots ∙ l.invariant.slots;
    }

pub returns-clause-variables : goal.returns-clause-variables
returns-clause-variables c =
    let l = c.loop-slot in
    let held = c.args.facts.now in
    let over = none-left (into_iter_items l.slot-iterator) (l.invariant.counted ∙ c.in-None.ensures.steps.0) in
    let whole : l.facts ≡ with_values held c.args.host c.args.writes.items = ap (with_values l.facts c.args.host) (sym over) ∙ l.invariant.written in
    λ slots hs k count.
    let names = names_of_slots slots in
    ap (λ h. host_variables hs names h k) whole
    ∙ are-written hs names (ascending-distinct names slots.ascending) c.slots_are_variables.ensures.put held c.args.host k c.args.writes.items count c.hosts.ensures.rows c.requires.host c.requires.slots
