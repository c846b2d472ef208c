use Rattle.std.proofs.Common.{sym, ap, ◌∙◌, ◌∷◌, [], get_or}
use Rattle.pb_inventory.specs.Families.{add_numbers}
use Rattle.pb_inventory.proofs.Marks.{marked-full}
use Rattle.pb_inventory.proofs.Onces.{add_numbers-more}
use Rattle.pb_inventory.proofs.family.add_hosts.Goals as goal

pub loop-host-preserved : goal.loop-host-preserved
loop-host-preserved c =
    let l = c.loop-host in
    let hs = c.args.hosts.now in
    record {
      members = c.in_ok-add_host.ensures.members ∙ ap (λ ns. add_numbers ns (get_or hs l.host-index 0 ∷ [])) l.invariant.members
          ∙ add_numbers-more c.args.family.now.items hs l.host-index c.loop-host-test.true;
      marks = c.in_ok-add_host.ensures.marks;
    }

pub returns-then-len-seen-clause-members : goal.returns-then-len-seen-clause-members
returns-then-len-seen-clause-members c =
    sym (marked-full c.args.family.now.items c.args.seen.now c.args.stamp c.requires.marks (sym c.args.family.now.ok.0 ∙ sym c.len.ensures ∙ c.if-len-seen.true) c.args.hosts.now c.requires.known)
