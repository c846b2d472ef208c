use Rattle.std.proofs.Common.{◌≡◌, ◌<◌, ◌≤◌, ◌+◌, [], ◌∷◌, ◌++◌, ◌∙◌, get_or, length, take, take_all, sym, ap, subst, subst₂}
use Rattle.std.proofs.lemmas.List.{take_more}
use Rattle.pb_steps.specs.Nodes.{AreNodes}
use Rattle.pb_plan.specs.Nodes.{AreTasksOf}
use Rattle.pb_plan.proofs.Planned.{tasks-more}
use Rattle.pb_plan.proofs.plan.tasks_of_plays.Goals as goal

pub loop-nodes-init : goal.loop-nodes-init
loop-nodes-init c = λ ms. subst (λ ts. AreTasksOf ms ts []) (sym c.in_ok-tasks.ensures.items) tt

pub prepared-requires : goal.prepared-requires
prepared-requires c = record {
  nodes = subst AreNodes (sym c.nodes-item.is) (c.requires.nodes c.loop-nodes.nodes-index c.nodes-item.result c.loop-nodes-test.true);
}

pub loop-nodes-preserved : goal.loop-nodes-preserved
loop-nodes-preserved c = λ ms.
    let l = c.loop-nodes in
    let i = l.nodes-index in
    let n = c.nodes-item.result in
    let ps = c.args.plays.now in
    let more : take (i + 1) ps ≡ take i ps ++ n ∷ [] = take_more ps i n c.loop-nodes-test.true ∙ ap (λ x. take i ps ++ x ∷ []) (sym c.nodes-item.is) in
    subst₂ (AreTasksOf ms) (sym c.in_ok-push.ensures.items) (sym more)
    (tasks-more ms l.tasks.items (take i ps) c.in_ok-prepared.prepared n (l.invariant ms) (λ is. c.in_ok-prepared.ensures ms is.sound is.gathers))

pub returns : goal.returns
returns c = λ ms. subst (AreTasksOf ms c.loop-nodes.tasks.items) (take_all c.loop-nodes.nodes-index c.args.plays.now c.loop-nodes-test.false) (c.loop-nodes.invariant ms)
