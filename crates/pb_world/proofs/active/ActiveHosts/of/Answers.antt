use Rattle.std.proofs.Common.{◌∙◌, sym, ap, arith}
use Rattle.std.specs.Prelude.{nat_lt}
use Rattle.std.specs.List.{list_all}
use Rattle.std.proofs.lemmas.List.{take_all}
use Rattle.pb_world.specs.Active.{flags_of}
use Rattle.pb_world.proofs.Flags.{all-below}
use Rattle.pb_world.proofs.active.ActiveHosts.of.Goals as goal

pub invariant_of-result : goal.invariant_of-result
invariant_of-result c =
    let l = c.loop-index in
    let ms = c.args.members.items in
    let count = l.invariant.1 in (
      l.invariant.0 ∙ ap (flags_of c.args.hosts) (take_all l.index ms (omega (arith, c.len-index-end.ensures, c.loop-index-test.false, c.args.members.ok.0))) ∙ ap (λ n. flags_of n ms) (sym count),
      ap (λ n. list_all (λ k. nat_lt k n) ms) count ∙ all-below c.args.hosts ms c.requires,
    )
