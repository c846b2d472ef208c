use Rattle.std.proofs.Common.{◌∙◌, ◌<◌, subst}
use Rattle.pb_facts.specs.Facts.{IsBlock}
use Rattle.pb_facts.proofs.Entries.{length-row, length-rows, row-default}
use Rattle.pb_facts.proofs.facts.Facts.hosts.Goals as goal

pub returns-clause-rows : goal.returns-clause-rows
returns-clause-rows c =
    let facts = c.self.inside in
    let count = length-rows facts.hosts facts.slots facts.values.items in
    subst IsBlock c.self.view_is (record {
      hosts = count;
      slots = λ row d within.
          row-default facts.hosts facts.slots facts.values.items row d within
          ∙ length-row facts.hosts facts.slots facts.values.items row c.self.invariant (subst (λ n. row < n) count within);
    })
