use Rattle.std.proofs.Common.{◌∷◌, [], ◌∙◌, ◌+◌, All, length, sym, ap, subst, arith}
use Rattle.std.proofs.lemmas.List.{length-append}
use Rattle.std.proofs.lemmas.List.Elements.{All-append}
use Rattle.pb_core.specs.Hosts.{IsFresh}
use Rattle.pb_core.proofs.Runs.{all_one}
use Rattle.pb_core.proofs.turns.hosts_of.Goals as goal

pub loop-preserved : goal.loop-preserved
loop-preserved g c = record {
  fresh = subst (All IsFresh) (sym c.in_ok-add_host.ensures) (All-append IsFresh c.loop.hosts.items (c.in_ok-host.host ∷ []) c.loop.invariant.fresh (all_one IsFresh c.in_ok-host.host c.in_ok-host.ensures));
  count = ap length c.in_ok-add_host.ensures ∙ length-append c.loop.hosts.items (c.in_ok-host.host ∷ []) ∙ ap (λ n. n + 1) c.loop.invariant.count;
}

pub returns-clause-count : goal.returns-clause-count
returns-clause-count g c = let end = c.loop.auto.counter-end in omega (arith, c.loop.invariant.count, c.loop-test.false, end)
