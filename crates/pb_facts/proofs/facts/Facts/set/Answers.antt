use Rattle.std.proofs.Common.{◌<◌, sym, ap, subst, ◌∙◌, Some}
use Rattle.pb_facts.specs.Facts.{with_value}
use Rattle.pb_facts.proofs.Entries.{set-rows}
use Rattle.pb_facts.proofs.facts.Facts.set.Goals as goal

pub returns : goal.returns
returns c =
    let host = subst (λ held. c.args.host < held.hosts) (sym c.self.view_is) c.requires.host in
    let slot = subst (λ held. c.args.slot < held.slots) (sym c.self.view_is) c.requires.slot in
    ap (λ rows. record { hosts = c.self.inside.hosts; slots = c.self.inside.slots; rows = rows })
    (set-rows c.self.inside.hosts c.self.inside.slots c.self.inside.values.items c.args.host c.args.slot (Some c.args.value) host slot)
    ∙ ap (λ held. with_value held c.args.host c.args.slot c.args.value) c.self.view_is
