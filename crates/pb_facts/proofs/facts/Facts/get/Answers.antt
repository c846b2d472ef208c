use Rattle.std.proofs.Common.{◌<◌, ◌+◌, ◌*◌, sym, ap, subst, ◌∙◌, None, arith}
use Rattle.std.proofs.lemmas.List.{get_or_default}
use Rattle.std.proofs.lemmas.Nat.{mul-add-lt}
use Rattle.pb_facts.specs.Facts.{value_at}
use Rattle.pb_facts.proofs.Entries.{at-rows}
use Rattle.pb_facts.proofs.facts.Facts.get.Goals as goal

pub returns : goal.returns
returns c =
    let facts = c.self.inside in
    let host = subst (λ held. c.args.host < held.hosts) (sym c.self.view_is) c.requires.host in
    let slot = subst (λ held. c.args.slot < held.slots) (sym c.self.view_is) c.requires.slot in
    let inside = mul-add-lt c.args.host facts.slots c.args.slot facts.hosts host slot in
    c.as_ref.ensures.value ∙ c.index.ensures
    ∙ get_or_default facts.values.items (c.args.host * facts.slots + c.args.slot) c.index.result.now None (omega (arith, inside, c.self.invariant))
    ∙ sym (at-rows facts.hosts facts.slots facts.values.items c.args.host c.args.slot None host slot)
    ∙ ap (λ held. value_at held c.args.host c.args.slot) c.self.view_is
