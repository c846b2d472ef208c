use Rattle.std.proofs.Common.{◌∙◌, ◌<◌, ◌≤◌, ◌≡◌, ◌+◌, ◌++◌, ◌∷◌, [], All, List, ap, arith, length, map, subst, sym}
use Rattle.std.proofs.lemmas.List.{length_push, take_all}
use Rattle.std.proofs.lemmas.List.Elements.{All-push}
use Rattle.pb_language.specs.Kinds.{known_slots}
use Rattle.pb_inventory.specs.Inventory.{inventory_view}
use Rattle.pb_hosts.specs.Given.{IsFirst, IsGiven, slots_given}
use Rattle.pb_hosts.specs.declared.given.Given.{Given}
use Rattle.pb_hosts.proofs.Sharing.{all_known, all_shared, firsts_more, host_more}
use Rattle.pb_hosts.proofs.given.known_of_each.Goals as goal

pub loop-host-preserved : goal.loop-host-preserved
loop-host-preserved c =
    let l = c.loop-host in
    let i = c.args.inventory.now in
    let xs = (inventory_view i).hosts in
    let gs = l.given.items in
    let us = c.push.new.self.items in
    let g = c.in_ok-next.next in
    let more = c.in_ok-push.ensures.items in
    let within : l.host < length xs = omega (arith, c.hosts-host-end.ensures, c.loop-host-test.true) in
    let longer : l.host + 1 ≡ length us = ap (λ n. n + 1) l.invariant.3 ∙ sym (ap length more ∙ length_push gs g) in
    let first = subst (λ (vs : List Given). IsFirst (slots_given (vs ++ g ∷ [])) g) c.deref-in-loop-host.ensures.value c.in_ok-next.ensures.first in (
      host_more xs l.host gs us g within l.invariant.0 c.in_ok-next.ensures.known more,
      subst (λ (vs : List Given). All (IsGiven i) vs) (sym more) (All-push (IsGiven i) gs g l.invariant.1 c.in_ok-next.ensures.given),
      firsts_more gs us g l.invariant.2 more first,
      longer,
    )

pub returns-clause-known : goal.returns-clause-known
returns-clause-known c =
    let l = c.loop-host in
    let xs = (inventory_view c.args.inventory.now).hosts in
    let past : length xs ≤ l.host = omega (arith, c.hosts-host-end.ensures, c.loop-host-test.false) in
    all_known c.parted.result (slots_given l.given.items) (map (λ h. known_slots h.variables) xs) c.parted.ensures.known
    (l.invariant.0 ∙ ap (map (λ h. known_slots h.variables)) (take_all l.host xs past))

pub returns-clause-firsts : goal.returns-clause-firsts
returns-clause-firsts c = all_shared c.parted.result c.loop-host.given.items c.loop-host.invariant.2 c.parted.ensures.known c.parted.ensures.firsts
