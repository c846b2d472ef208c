use Rattle.std.proofs.Common.{◌≡◌, ◌∙◌, length, map, ap, sym, subst}
use Rattle.pb_language.specs.Plays.{play_row}
use Rattle.pb_play.specs.Plays.{play_view}
use Rattle.pb_template.specs.Entries.{entries_view}
use Rattle.pb_flow.specs.Nodes.{AreVisitedSound, node_task}
use Rattle.pb_route.specs.Station.{station_task}
use Rattle.pb_route.proofs.Routed.{are-of-row, are-paths}
use Rattle.pb_route.proofs.route.Route.of.Goals as goal

pub invariant_of-result : goal.invariant_of-result
invariant_of-result c =
    let graph = c.in_ok-graph.graph in
    let flow = c.in_ok-flow.flow in
    are-paths flow.graph flow.ways.items c.in_ok-stations.stations.items graph.begin graph.tasks.items c.in_ok-flow.ensures.graph c.in_ok-flow.ensures.ways
    (c.in_ok-stations.ensures.number ∙ ap length c.deref.ensures.value) c.in_ok-stations.ensures.stations

pub returns : goal.returns
returns c = λ ms sound gathers.
    let play = c.args.play.now in
    let vars = entries_view play.vars.items in
    let graph = c.in_ok-graph.graph in
    let flow = c.in_ok-flow.flow in
    let stations = c.in_ok-stations.stations in
    let visited = subst (AreVisitedSound ms play.gathering) (sym c.deref.ensures.value) (c.in_ok-graph.ensures.sound ms sound) in
    let told : map station_task stations.items ≡ map (node_task ms vars) graph.tasks.items = c.in_ok-stations.ensures.tasks ms visited gathers ∙ ap (map (node_task ms vars)) c.deref.ensures.value in
    let row = play_row ms (play_view play) in
    let steps = c.in_ok-graph.ensures.steps ms in
    let tasks = c.steps_have_tasks_and_links.ensures.tasks ms vars row graph.tasks.items steps in
    let links = c.steps_have_tasks_and_links.ensures.links ms vars row graph.tasks.items steps in
    are-of-row flow.graph flow.ways.items stations.items graph.begin graph.tasks.items c.in_ok-flow.ensures.graph c.in_ok-flow.ensures.ways
    (c.in_ok-stations.ensures.number ∙ ap length c.deref.ensures.value) ms vars row c.edges_are_those_of_the_row.ensures c.edges_carry_what_the_row_does.ensures
    (c.in_ok-graph.ensures.begin ms) tasks links told
