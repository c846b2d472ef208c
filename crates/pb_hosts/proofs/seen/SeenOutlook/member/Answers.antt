use Rattle.std.proofs.Common.{◌∙◌, ◌<◌, ℕ, List, ap, length, subst, sym, option_map, Global, Vec}
use Rattle.std.specs.List.{All}
use Rattle.pb_language.specs.World.{name_at}
use Rattle.pb_inventory.specs.Inventory.{inventory_view}
use Rattle.pb_inventory.specs.Numbered.{named}
use Rattle.pb_inventory.proofs.PatternHosts.{group-placed}
use Rattle.pb_hosts.specs.Tables.{host_names}
use Rattle.pb_hosts.proofs.Groups.{member_found, member_in}
use Rattle.pb_hosts.proofs.seen.SeenOutlook.member.Goals as goal

pub name_among-requires : goal.name_among-requires
name_among-requires c =
    let i = inventory_view c.args.self.now.cast.now.inventory.now in
    subst (λ (ps : List ℕ). All (λ p. p < length i.hosts) ps) (sym c.deref.ensures.value)
    (group-placed c.args.group.now (length i.hosts) c.groups.result.now.entries c.in-Some.members.now (sym c.in-Some.ensures.value) c.groups.ensures.placed)

pub returns-in-Some : goal.returns-in-Some
returns-in-Some c =
    let i = inventory_view c.args.self.now.cast.now.inventory.now in
    let hs = host_names i in
    c.name_among.ensures ∙ ap (λ ps. name_at c.args.place (named hs ps)) c.deref.ensures.value
    ∙ ap (λ o. member_in c.args.place (option_map (λ (ms : Vec ℕ Global). named hs ms.items) o)) c.in-Some.ensures.value
    ∙ sym (member_found hs c.args.group.now c.args.place c.groups.result.now.entries i.groups c.groups.ensures.groups)

pub returns-in-None : goal.returns-in-None
returns-in-None c =
    let i = inventory_view c.args.self.now.cast.now.inventory.now in
    let hs = host_names i in
    ap (λ o. member_in c.args.place (option_map (λ (ms : Vec ℕ Global). named hs ms.items) o)) c.in-None.ensures.value
    ∙ sym (member_found hs c.args.group.now c.args.place c.groups.result.now.entries i.groups c.groups.ensures.groups)
