use Rattle.std.proofs.Common.{◌≡◌, ◌<◌, ◌≤◌, ◌+◌, List, [], ◌∷◌, ◌++◌, ◌∙◌, append-nil, get_or, length, map, take, take_all, sym, ap, subst, subst₂, arith, rules}
use Rattle.std.proofs.lemmas.List.{length_push, map_more}
use Rattle.pb_language.specs.Expression.{no_parts}
use Rattle.pb_language.specs.Task.{Task}
use Rattle.pb_flow.specs.Nodes.{node_step}
use Rattle.pb_flow.specs.declared.graph.Node.{Node}
use Rattle.pb_route.specs.Station.{IsStation, station_task}
use Rattle.pb_rules.specs.Handlers.{handlers_names}
use Rattle.pb_slots.specs.Words.{names_of_slots}
use Rattle.pb_steps.specs.Outlines.{Outline, outline, outline_view}
use Rattle.pb_steps.specs.Uses.{AreUsed}
use Rattle.pb_steps.specs.declared.step.Step.{Step}
use Rattle.pb_steps.proofs.Planned.{as-many, nothing-left, one-more}
use Rattle.pb_steps.proofs.Used.{used-more}
use Rattle.pb_steps.proofs.step.Scene.steps.Goals as goal

pub loop-node-init : goal.loop-node-init
loop-node-init c =
    let names = names_of_slots c.args.self.now.slots.now in
    let hs = handlers_names c.args.self.now.handlers.now in (
      λ ms vars. search rules,
      subst (λ xs. AreUsed names hs xs (map station_task (take (length xs) c.args.stations.now))) (sym c.in_ok-steps.ensures.items) tt,
    )

-- there is a station for the next node
pub bounds-stations-len : goal.bounds-stations-len
bounds-stations-len c =
    let l = c.loop-node in
    let f : Node → Outline = λ n. outline (node_step [] no_parts n) in
    let many = as-many f outline_view c.args.nodes.items l.node-iterator.rest.items l.steps.items (l.invariant.0 [] no_parts) in
    let first = ap length c.in-Some.ensures.steps.0 in
    omega (arith, many, first, c.requires.number, c.len-in-loop-node.ensures, l.steps.ok.0)

pub offset_bounds-stations-len : goal.offset_bounds-stations-len
offset_bounds-stations-len c =
    let lt : c.len-in-loop-node.result < length c.args.stations.now = bounds-stations-len c in
    search rules

pub step-requires : goal.step-requires
step-requires c =
    let l = c.loop-node in
    let k = c.len-in-loop-node.result in
    let s = c.index-stations-len.result in
    let f : Node → Outline = λ n. outline (node_step [] no_parts n) in
    let many = as-many f outline_view c.args.nodes.items l.node-iterator.rest.items l.steps.items (l.invariant.0 [] no_parts) in
    let first = ap length c.in-Some.ensures.steps.0 in
    let lt : k < length c.args.stations.now = omega (arith, many, first, c.requires.number, c.len-in-loop-node.ensures, l.steps.ok.0) in record {
      station = subst IsStation (sym c.index-stations-len.is) (c.requires.stations k s lt);
    }

pub loop-node-preserved : goal.loop-node-preserved
loop-node-preserved c =
    let l = c.loop-node in
    let left = c.next.new.self.rest.items in
    let ss = c.args.stations.now in
    let k = c.len-in-loop-node.result in
    let s = c.index-stations-len.result in
    let step = c.in_ok-step.step in
    let f0 : Node → Outline = λ n. outline (node_step [] no_parts n) in
    let many = as-many f0 outline_view c.args.nodes.items l.node-iterator.rest.items l.steps.items (l.invariant.0 [] no_parts) in
    let first = ap length c.in-Some.ensures.steps.0 in
    let lt : k < length ss = omega (arith, many, first, c.requires.number, c.len-in-loop-node.ensures, l.steps.ok.0) in
    let counted : length l.steps.items ≡ k = omega (arith, c.len-in-loop-node.ensures, l.steps.ok.0) in
    let more : map station_task (take (k + 1) ss) ≡ map station_task (take k ss) ++ station_task s ∷ [] =
    map_more station_task ss k s lt ∙ ap (λ x. map station_task (take k ss) ++ station_task x ∷ []) (sym c.index-stations-len.is) in
    let longer : length c.push.new.self.items ≡ k + 1 = ap length c.in_ok-push.ensures.items ∙ length_push l.steps.items step ∙ omega (arith, counted) in
    let names = names_of_slots c.args.self.now.slots.now in
    let hs = handlers_names c.args.self.now.handlers.now in
    let used : AreUsed names hs l.steps.items (map station_task (take k ss)) = subst (λ n. AreUsed names hs l.steps.items (map station_task (take n ss))) counted l.invariant.1 in
    let both : AreUsed names hs (l.steps.items ++ step ∷ []) (map station_task (take (k + 1) ss)) =
    subst (AreUsed names hs (l.steps.items ++ step ∷ [])) (sym more) (used-more names hs l.steps.items (map station_task (take k ss)) step (station_task s) used c.in_ok-step.ensures.uses) in (
      λ ms vars.
          let f : Node → Outline = λ n. outline (node_step ms vars n) in
          l.invariant.0 ms vars ∙ ap (λ (ns : List Node). map outline_view l.steps.items ++ map f ns) c.in-Some.ensures.steps.0
          ∙ one-more f outline_view l.steps.items step c.in-Some.node left (c.in_ok-step.ensures.outline ms vars)
          ∙ ap (λ (xs : List Step). map outline_view xs ++ map f left) (sym c.in_ok-push.ensures.items),
      subst₂ (λ xs n. AreUsed names hs xs (map station_task (take n ss))) (sym c.in_ok-push.ensures.items) (sym longer) both,
    )

pub returns-clause-outlines : goal.returns-clause-outlines
returns-clause-outlines c ms vars =
    let l = c.loop-node in
    let f : Node → Outline = λ n. outline (node_step ms vars n) in
    let none = nothing-left l.node-iterator.rest.items l.node-iterator.rest.len (sym l.node-iterator.rest.ok.0) c.in-None.ensures.steps.0 in
    sym (l.invariant.0 ms vars ∙ ap (λ (ns : List Node). map outline_view l.steps.items ++ map f ns) none ∙ append-nil (map outline_view l.steps.items))

pub returns-clause-uses : goal.returns-clause-uses
returns-clause-uses c =
    let l = c.loop-node in
    let f : Node → Outline = λ n. outline (node_step [] no_parts n) in
    let none = nothing-left l.node-iterator.rest.items l.node-iterator.rest.len (sym l.node-iterator.rest.ok.0) c.in-None.ensures.steps.0 in
    let many = as-many f outline_view c.args.nodes.items l.node-iterator.rest.items l.steps.items (l.invariant.0 [] no_parts) in
    let zero = ap length none in
    let names = names_of_slots c.args.self.now.slots.now in
    let hs = handlers_names c.args.self.now.handlers.now in
    subst (λ xs. AreUsed names hs l.steps.items (map station_task xs)) (take_all (length l.steps.items) c.args.stations.now (omega (arith, many, zero, c.requires.number))) l.invariant.1
