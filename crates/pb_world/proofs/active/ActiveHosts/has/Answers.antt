use Rattle.std.proofs.Common.{◌∙◌, ◌<◌, false, length, sym, ap, subst}
use Rattle.std.proofs.lemmas.List.{length-replicate}
use Rattle.pb_inventory.specs.Graph.{is_in}
use Rattle.pb_world.proofs.Flags.{flag-at}
use Rattle.pb_world.proofs.active.ActiveHosts.has.Goals as goal

pub returns : goal.returns
returns c =
    let i = c.self.inside in
    let k = c.args.host in
    let n = length i.flags.items in
    let few : k < n = subst (λ m. k < m) (sym (ap (λ a. a.hosts) c.self.view_is)) c.requires in
    c.index.ensures ∙ flag-at c.index.result.now n i.members.items k i.flags.items (length-replicate n false) c.self.invariant.0 few ∙ ap (λ a. is_in k a.members) c.self.view_is
