use Rattle.std.proofs.Common.{◌∙◌}
use Rattle.pb_slots.proofs.Found.{all-ascend, begun, each-pushed}
use Rattle.pb_slots.proofs.slots.Slots.of.Goals as goal

pub loop-name-init : goal.loop-name-init
loop-name-init c = begun _ _ _ c.in_ok-all.ensures.items (c.into_iter-name-iterator.ensures.into_iter_gives ∙ c.iter-name-items.ensures.rest)

pub loop-name-preserved : goal.loop-name-preserved
loop-name-preserved c = each-pushed _ _ _ _ _ _ _ c.in_ok-push.ensures.items c.in_ok-from_str.ensures.ok c.in-Some.ensures.steps c.loop-name.invariant

pub invariant_of-result : goal.invariant_of-result
invariant_of-result c = record {
  ascending = all-ascend c.loop-name.all.items c.loop-name.name-iterator c.args.names.now.keys c.in-None.ensures.steps.0 c.loop-name.invariant c.len.ensures.ordered;
}
