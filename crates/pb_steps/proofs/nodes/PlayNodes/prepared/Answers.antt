use Rattle.std.proofs.Common.{◌≡◌, ◌<◌, ◌≤◌, ◌+◌, [], ◌∷◌, ◌++◌, ◌∙◌, get_or, length, map, take, sym, ap, subst, subst₂}
use Rattle.std.proofs.lemmas.List.{map_more, take_all}
use Rattle.pb_machine.specs.Steps.{Step as FlatStep}
use Rattle.pb_route.specs.Station.{IsStation, station_task}
use Rattle.pb_template.specs.Entries.{entries_view}
use Rattle.pb_steps.proofs.Planned.{tasks-planned}
use Rattle.pb_steps.proofs.Prepared.{ArePreparedInOrder, one-more, tasks-prepared}
use Rattle.pb_steps.proofs.nodes.PlayNodes.prepared.Goals as goal

pub loop-station-init : goal.loop-station-init
loop-station-init c = subst (λ ps. ArePreparedInOrder ps []) (sym c.in_ok-tasks.ensures.items) tt

pub prepare-requires : goal.prepare-requires
prepare-requires c =
    let i = c.loop-station.station-index in
    let s = c.station-item.result in
    let all = c.deref-station-items.ensures.value in record {
      station = subst IsStation (sym (c.station-item.is ∙ ap (λ xs. get_or xs i s) all)) (c.requires.nodes.stations i s (subst (λ xs. i < length xs) all c.loop-station-test.true));
    }

pub loop-station-preserved : goal.loop-station-preserved
loop-station-preserved c =
    let l = c.loop-station in
    let i = l.station-index in
    let s = c.station-item.result in
    let ss = c.args.self.now.stations.items in
    let all = c.deref-station-items.ensures.value in
    let at : s ≡ get_or ss i s = c.station-item.is ∙ ap (λ xs. get_or xs i s) all in
    let more : map station_task (take (i + 1) ss) ≡ map station_task (take i ss) ++ station_task s ∷ [] =
    map_more station_task ss i s (subst (λ xs. i < length xs) all c.loop-station-test.true) ∙ ap (λ x. map station_task (take i ss) ++ station_task x ∷ []) (sym at) in
    subst₂ ArePreparedInOrder (sym c.in_ok-push.ensures.items) (sym more) (one-more l.tasks.items (map station_task (take i ss)) c.in_ok-task.task (station_task s) l.invariant c.in_ok-task.ensures.task)

pub returns : goal.returns
returns c ms sound gathers =
    let l = c.loop-station in
    let play = c.args.self.now.play.now in
    let vars = entries_view play.vars.items in
    let ss = c.args.self.now.stations.items in
    let nodes = c.args.self.now.graph.tasks.items in
    let same = c.requires.nodes.tasks ms sound gathers in
    let told = same ∙ tasks-planned ms vars nodes ∙ ap (map (λ (s : FlatStep). s.task)) (c.requires.nodes.steps ms) in
    let whole : ArePreparedInOrder l.tasks.items (map station_task ss) =
    subst (λ xs. ArePreparedInOrder l.tasks.items (map station_task xs)) (take_all l.station-index ss (subst (λ xs. length xs ≤ l.station-index) c.deref-station-items.ensures.value c.loop-station-test.false)) l.invariant in
    tasks-prepared ms vars play.gathering nodes l.tasks.items _ (sym told ∙ same) (c.requires.nodes.sound ms sound) (subst (ArePreparedInOrder l.tasks.items) told whole)
