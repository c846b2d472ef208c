use Rattle.std.proofs.Common.{◌∙◌, ap, is_some, map, nat_lt}
use Rattle.pb_language.specs.World.{HostVariables, member_of}
use Rattle.pb_inventory.specs.Inventory.{inventory_view}
use Rattle.pb_rules.proofs.InventoryNames.{is_within, member-there}
use Rattle.pb_rules.proofs.known.has_member.Goals as goal

pub returns-in-Some : goal.returns-in-Some
returns-in-Some c =
    let v = inventory_view c.args.inventory.now in
    let hs = map (λ (h : HostVariables). h.name) v.hosts in
    let n = c.as_str.result.now in
    let i = c.args.member.now.place in
    ap (λ k. nat_lt i k) c.len.ensures ∙ ap (λ k. nat_lt i k) c.in-Some.hosts.now.ok.0 ∙ ap (is_within i) c.in-Some.ensures.value ∙ member-there hs n i c.groups.result.now.entries ∙ ap (λ gs. is_some (member_of n i gs)) c.groups.ensures.groups
    ∙ ap (λ m. is_some (member_of m i v.groups)) c.as_str.ensures.value

pub returns-in-None : goal.returns-in-None
returns-in-None c =
    let v = inventory_view c.args.inventory.now in
    let hs = map (λ (h : HostVariables). h.name) v.hosts in
    let n = c.as_str.result.now in
    let i = c.args.member.now.place in
    ap (is_within i) c.in-None.ensures.value ∙ member-there hs n i c.groups.result.now.entries ∙ ap (λ gs. is_some (member_of n i gs)) c.groups.ensures.groups
    ∙ ap (λ m. is_some (member_of m i v.groups)) c.as_str.ensures.value
