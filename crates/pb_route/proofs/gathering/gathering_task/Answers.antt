use Rattle.pb_sig.specs.Modules.{modules_of}
use Rattle.pb_route.proofs.GatheringTask.{setup-gathers}
use Rattle.pb_route.proofs.gathering.gathering_task.Goals as goal

pub returns : goal.returns
returns c =
    setup-gathers (modules_of c.args.registry.now) c.args.line c.in_ok-clone.field-0 c.in-Some.setup.now.value c.new.result c.new-2.result c.new-3.result c.new-4.result
    c.in_ok-clone.ensures.cases c.in-Some.ensures c.new.ensures.items c.new-2.ensures.items c.new-3.ensures.items c.new-4.ensures.items
