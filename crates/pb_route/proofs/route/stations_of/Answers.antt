use Rattle.std.proofs.Common.{length, sym, subst, ap, arith}
use Rattle.std.proofs.lemmas.List.{length_push}
use Rattle.std.proofs.lemmas.List.Elements.{All-push, All-same}
use Rattle.pb_flow.specs.Nodes.{IsVisitedSound, node_task}
use Rattle.pb_flow.specs.declared.graph.Node.{Node}
use Rattle.pb_template.specs.Entries.{entries_view}
use Rattle.pb_route.specs.Station.{IsStation}
use Rattle.pb_route.proofs.Stations.{more-stations}
use Rattle.pb_route.proofs.route.stations_of.Goals as goal

pub loop-node-preserved : goal.loop-node-preserved
loop-node-preserved c =
    let before = c.loop-node.stations.items in
    let s = c.in_ok-station.station in
    let n = c.node-item.result in
    let i = c.loop-node.node-index in
    let play = c.args.play.now in
    record {
      stations = All-same IsStation _ _ c.in_ok-push.ensures.items (All-push IsStation before s c.loop-node.invariant.stations c.in_ok-station.ensures.station);
      number = omega (arith, ap length c.in_ok-push.ensures.items, length_push before s, c.loop-node.invariant.number);
      tasks = λ ms v k.
          more-stations (node_task ms (entries_view play.vars.items)) before c.push.new.self.items s c.args.nodes.now i n c.in_ok-push.ensures.items c.loop-node-test.true c.node-item.is
          (c.loop-node.invariant.tasks ms v k) (c.in_ok-station.ensures.task ms (subst (λ (x : Node). IsVisitedSound ms play.gathering x.visited) (sym c.node-item.is) (v i n c.loop-node-test.true)) k);
    }
