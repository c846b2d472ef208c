use Rattle.std.proofs.Common.{◌≡◌, ◌∙◌, ◌<◌, length, get_or, subst, sym, ap, Some, option_map}
use Rattle.pb_inventory.specs.Inventory.{inventory_view}
use Rattle.pb_machine.specs.Run.{host_at}
use Rattle.pb_value.specs.View.{view}
use Rattle.pb_world.specs.declared.always.AlwaysThere.{AlwaysThere}
use Rattle.pb_world.proofs.Runs.{shows-host}
use Rattle.pb_world.proofs.run_world.RunWorld.of_host.Goals as goal

pub returns : goal.returns
returns c =
    let r = c.args.self.now in
    let w = c.with_always.result in
    let x = c.index-own.result.now in
    let told = c.with_always.ensures in
    λ s b h t runs there failure.
    let at : host_at w.host s.hosts ≡ Some h = ap (λ k. host_at k s.hosts) told.host ∙ there in
    let within : w.host < length (inventory_view r.variables.inventory.now).hosts = subst (λ k. k < length (inventory_view r.variables.inventory.now).hosts) (sym told.host) c.requires in
    let own : x ≡ get_or r.constants.now.hosts.items w.host x = c.index-own.ensures ∙ ap (λ k. get_or r.constants.now.hosts.items k x) (sym told.host) in
    c.shows_the_world.ensures w s b h t
    (shows-host r w s b h t x runs at told.variables told.active within own (ap (λ (a : AlwaysThere). view a.host_name.now) told.always) (ap (λ (a : AlwaysThere). view a.groups.now) told.always)
    (ap (λ (a : AlwaysThere). view a.group_names.now) told.always) (ap (λ (a : AlwaysThere). view a.play_batch.now) told.always) (ap (λ (a : AlwaysThere). option_map (λ v. view v.now) a.failure) told.always ∙ failure))
