use Rattle.std.proofs.Common.{◌∙◌, ◌<◌, ℕ, List, Some, Vec, Global, ap, length, map, option_map, subst, sym}
use Rattle.std.specs.List.{All}
use Rattle.std.proofs.lemmas.List.{length-map}
use Rattle.pb_inventory.specs.Numbered.{named}
use Rattle.pb_inventory.specs.Views.{host_names, host_view}
use Rattle.pb_inventory.proofs.HostAt.{names-of_views}
use Rattle.pb_inventory.proofs.PatternHosts.{group-found, group-placed}
use Rattle.pb_inventory.proofs.inventory.Inventory.members_of.Goals as goal

pub returns-in-Some-clause-named : goal.returns-in-Some-clause-named
returns-in-Some-clause-named c =
    let v = c.args.self.now in
    let hs = host_names v.hosts.entries in
    ap (λ ps. Some (named (map (λ h. h.name) (map host_view v.hosts.entries)) ps)) c.as_slice.ensures.value
    ∙ ap (λ ns. Some (named ns c.in-Some.members.now.items)) (names-of_views v.hosts.entries)
    ∙ ap (option_map (λ (ms : Vec ℕ Global). named hs ms.items)) c.in-Some.ensures.value ∙ sym (group-found hs c.args.name.now v.groups.entries)

pub returns-in-Some-clause-placed : goal.returns-in-Some-clause-placed
returns-in-Some-clause-placed c =
    let v = c.args.self.now in
    let ms = c.in-Some.members.now in
    let count = length-map v.hosts.entries host_view in
    let placed = group-placed c.args.name.now (length v.hosts.entries) v.groups.entries ms (sym c.in-Some.ensures.value) v.placed in
    subst (λ (ps : List ℕ). All (λ p. p < length (map host_view v.hosts.entries)) ps) (sym c.as_slice.ensures.value) (subst (λ (n : ℕ). All (λ p. p < n) ms.items) (sym count) placed)

pub returns-in-None-clause-named : goal.returns-in-None-clause-named
returns-in-None-clause-named c =
    let v = c.args.self.now in
    let hs = host_names v.hosts.entries in
    ap (option_map (λ (ms : Vec ℕ Global). named hs ms.items)) c.in-None.ensures.value ∙ sym (group-found hs c.args.name.now v.groups.entries)
