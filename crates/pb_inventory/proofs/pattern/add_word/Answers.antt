use Rattle.std.proofs.Common.{◌≡◌, ◌∙◌, ◌<◌, ap, arith, length, map, sym, true}
use Rattle.std.proofs.lemmas.List.{length-map}
use Rattle.pb_language.specs.World.{HostVariables}
use Rattle.pb_inventory.specs.Inventory.{inventory_view}
use Rattle.pb_inventory.specs.Numbered.{are_apart}
use Rattle.pb_inventory.proofs.HostAt.{names-of_views}
use Rattle.pb_inventory.proofs.PatternHosts.{found-group, found-host, within-all}
use Rattle.pb_inventory.proofs.pattern.add_word.Goals as goal

pub returns-in-Some-clause-given : goal.returns-in-Some-clause-given
returns-in-Some-clause-given c =
    let i = c.args.inventory.now in
    let v = inventory_view i in
    let names = map (λ (h : HostVariables). h.name) v.hosts in
    let count : length names ≡ length v.hosts = length-map v.hosts (λ h. h.name) in
    let apart : are_apart names ≡ true = ap are_apart (names-of_views i.hosts.entries) ∙ i.apart in
    let within = within-all names (length c.args.seen.now) c.args.places.now.items c.requires.marks.known (c.requires.count ∙ sym count) in
    let others = within-all names (length v.hosts) c.in-Some.members.now c.in-Some.ensures.placed (sym count) in
    found-group v apart c.args.word.now c.args.places.now.items c.in-Some.members.now c.add_hosts.new.family.items within others (sym c.in-Some.ensures.named) c.in_ok-add_hosts.ensures.members

pub returns-clause-given : goal.returns-clause-given
returns-clause-given c =
    let i = c.args.inventory.now in
    let v = inventory_view i in
    let names = map (λ (h : HostVariables). h.name) v.hosts in
    let count : length names ≡ length v.hosts = length-map v.hosts (λ h. h.name) in
    let apart : are_apart names ≡ true = ap are_apart (names-of_views i.hosts.entries) ∙ i.apart in
    let within = within-all names (length c.args.seen.now) c.args.places.now.items c.requires.marks.known (c.requires.count ∙ sym count) in
    let lt : c.in-Some-place_of.host < length names = omega (arith, c.in-Some-place_of.ensures.placed, count) in
    found-host v apart c.args.word.now c.args.places.now.items c.in-Some-place_of.host c.add_host.new.family.items within lt c.in-Some-place_of.ensures.named (sym c.in_default.ensures.named) (sym c.in-Some-place_of.ensures.known) c.in_ok-add_host.ensures.members
