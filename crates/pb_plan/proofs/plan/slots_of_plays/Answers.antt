use Rattle.std.proofs.Common.{◌≡◌, ◌<◌, ◌≤◌, ◌+◌, [], ◌∷◌, ◌++◌, ◌∙◌, get_or, length, map, take, take_all, sym, ap, subst}
use Rattle.std.proofs.lemmas.List.{take_more}
use Rattle.std.proofs.lemmas.Result.{IfOk-weaker}
use Rattle.pb_reads.specs.Reached.{names_in}
use Rattle.pb_route.specs.Station.{station_task}
use Rattle.pb_steps.specs.Nodes.{AreNodes}
use Rattle.pb_steps.specs.Uses.{Adds, SomeUses}
use Rattle.pb_steps.proofs.Used.{adds-both, adds-none}
use Rattle.pb_plan.specs.Nodes.{SomeNodesUse}
use Rattle.pb_plan.proofs.Planned.{use-either, use-first, use-last}
use Rattle.pb_plan.proofs.plan.slots_of_plays.Goals as goal

pub loop-nodes-init : goal.loop-nodes-init
loop-nodes-init c = subst (λ ns. Adds (SomeNodesUse []) [] ns) (sym (ap (λ ks. map (λ k. k.now) ks) c.new-names.ensures.empty)) (adds-none [] (SomeNodesUse []) (λ n h. h))

pub add_names-requires : goal.add_names-requires
add_names-requires c = record {
  nodes = subst AreNodes (sym c.nodes-item.is) (c.requires.nodes c.loop-nodes.nodes-index c.nodes-item.result c.loop-nodes-test.true);
}

pub loop-nodes-preserved : goal.loop-nodes-preserved
loop-nodes-preserved c =
    let i = c.loop-nodes.nodes-index in
    let n = c.nodes-item.result in
    let ps = c.args.plays.now in
    let more : take (i + 1) ps ≡ take i ps ++ n ∷ [] = take_more ps i n c.loop-nodes-test.true ∙ ap (λ x. take i ps ++ x ∷ []) (sym c.nodes-item.is) in
    subst (λ xs. Adds (SomeNodesUse xs) [] (names_in c.add_names.new.names)) (sym more)
    (adds-both (SomeNodesUse (take i ps)) (SomeUses (map station_task n.stations.items)) (SomeNodesUse (take i ps ++ n ∷ [])) [] (names_in c.loop-nodes.names) (names_in c.add_names.new.names)
    (use-either (take i ps) n) (use-first (take i ps) n) (use-last (take i ps) n) c.loop-nodes.invariant c.in_ok-add_names.ensures)

pub returns : goal.returns
returns c =
    let ps = c.args.plays.now in
    let all = subst (λ xs. Adds (SomeNodesUse xs) [] (names_in c.loop-nodes.names)) (take_all c.loop-nodes.nodes-index ps c.loop-nodes-test.false) c.loop-nodes.invariant in
    IfOk-weaker c.of.result _ _ (λ s e. subst (Adds (SomeNodesUse ps) []) (sym e) all) c.of.ensures
