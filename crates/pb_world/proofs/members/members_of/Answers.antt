use Rattle.std.proofs.Common.{◌∙◌, ◌<◌, ℕ, List, Some, Vec, Global, ap, length, map, option_map, subst, sym}
use Rattle.std.specs.List.{All}
use Rattle.pb_inventory.specs.Numbered.{named}
use Rattle.pb_inventory.specs.Views.{host_view}
use Rattle.pb_language.specs.Plays.{group_named}
use Rattle.pb_inventory.proofs.PatternHosts.{group-found, group-placed}
use Rattle.pb_world.specs.Hosts.{names_of_hosts}
use Rattle.pb_world.proofs.members.members_of.Goals as goal

pub returns-in-Some-clause-named : goal.returns-in-Some-clause-named
returns-in-Some-clause-named c =
    let v = c.args.inventory.now in
    let ns = names_of_hosts (map host_view v.hosts.entries) in
    ap (λ ps. Some (named ns ps)) c.as_slice.ensures.value ∙ ap (option_map (λ (ms : Vec ℕ Global). named ns ms.items)) c.in-Some.ensures.value
    ∙ sym (group-found ns c.args.group.now c.groups.result.now.entries) ∙ ap (group_named c.args.group.now) c.groups.ensures.groups

pub returns-in-Some-clause-placed : goal.returns-in-Some-clause-placed
returns-in-Some-clause-placed c =
    let v = c.args.inventory.now in
    let ms = c.in-Some.members.now in
    let placed = group-placed c.args.group.now (length (map host_view v.hosts.entries)) c.groups.result.now.entries ms (sym c.in-Some.ensures.value) c.groups.ensures.placed in
    subst (λ (ps : List ℕ). All (λ p. p < length (map host_view v.hosts.entries)) ps) (sym c.as_slice.ensures.value) placed

pub returns-in-None-clause-named : goal.returns-in-None-clause-named
returns-in-None-clause-named c =
    let ns = names_of_hosts (map host_view c.args.inventory.now.hosts.entries) in
    ap (option_map (λ (ms : Vec ℕ Global). named ns ms.items)) c.in-None.ensures.value
    ∙ sym (group-found ns c.args.group.now c.groups.result.now.entries) ∙ ap (group_named c.args.group.now) c.groups.ensures.groups
