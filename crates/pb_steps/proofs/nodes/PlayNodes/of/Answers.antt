use Rattle.std.proofs.Common.{◌∙◌, length, map, ap, subst, sym}
use Rattle.pb_flow.specs.Nodes.{AreVisitedSound, node_task}
use Rattle.pb_template.specs.Entries.{entries_view}
use Rattle.pb_steps.proofs.nodes.PlayNodes.of.Goals as goal

pub returns-clause-nodes : goal.returns-clause-nodes
returns-clause-nodes c =
    let play = c.args.play.now in
    let all = c.deref.ensures.value in record {
      begin = c.in_ok-graph.ensures.begin;
      steps = c.in_ok-graph.ensures.steps;
      sound = c.in_ok-graph.ensures.sound;
      stations = c.in_ok-stations.ensures.stations;
      number = c.in_ok-stations.ensures.number ∙ ap length all;
      tasks = λ ms sound gathers.
          c.in_ok-stations.ensures.tasks ms (subst (AreVisitedSound ms play.gathering) (sym all) (c.in_ok-graph.ensures.sound ms sound)) gathers ∙ ap (map (node_task ms (entries_view play.vars.items))) all;
    }
