use Rattle.std.proofs.Common.{◌≡◌, [], map, ap, subst, subst₂, ◌∙◌}
use Rattle.pb_language.specs.Expression.{no_parts}
use Rattle.pb_language.specs.Plays.{names_of_handlers, play_row}
use Rattle.pb_play.specs.Plays.{play_view}
use Rattle.pb_template.specs.Entries.{entries_view}
use Rattle.pb_flow.specs.Nodes.{node_step, target_view}
use Rattle.pb_machine.specs.Steps.{Target, Step as FlatStep}
use Rattle.pb_route.specs.Station.{station_task}
use Rattle.pb_rules.specs.Handlers.{handlers_names}
use Rattle.pb_slots.specs.Words.{names_of_slots}
use Rattle.pb_steps.specs.Outlines.{outline_view}
use Rattle.pb_steps.specs.Uses.{AreUsed}
use Rattle.pb_steps.proofs.Leads.{steps-lead-on}
use Rattle.pb_steps.proofs.Planned.{nodes-outlined, planned, tasks-planned}
use Rattle.pb_steps.proofs.step.PlaySteps.of.Goals as goal

pub returns-clause-plan : goal.returns-clause-plan
returns-clause-plan c ms =
    let play = c.args.nodes.play.now in
    let vars = entries_view play.vars.items in
    let nodes = c.args.nodes.graph.tasks.items in
    planned (play_row ms (play_view play)) (target_view c.begin_at-begin.result) c.args.nodes.graph.begin (map outline_view c.in_ok-steps.steps.items) (map (node_step ms vars) nodes)
    c.steps_lead_along_links.ensures c.steps_lead_on.ensures.begin c.begin_at-begin.ensures (c.requires.nodes.begin ms) (c.requires.nodes.steps ms) (c.in_ok-steps.ensures.outlines ms vars ∙ nodes-outlined ms vars nodes)

pub returns-clause-uses : goal.returns-clause-uses
returns-clause-uses c ms sound gathers =
    let play = c.args.nodes.play.now in
    let vars = entries_view play.vars.items in
    let told = c.requires.nodes.tasks ms sound gathers ∙ tasks-planned ms vars c.args.nodes.graph.tasks.items ∙ ap (map (λ (s : FlatStep). s.task)) (c.requires.nodes.steps ms) in
    let names = names_of_slots c.args.slots.now in
    let items = c.in_ok-steps.steps.items in
    let made : AreUsed names (handlers_names play.handlers.items) items (map station_task c.args.nodes.stations.items) =
    subst₂ (λ hs ss. AreUsed names (handlers_names hs) items (map station_task ss)) c.deref.ensures.value c.deref-2.ensures.value c.in_ok-steps.ensures.uses in
    subst (AreUsed names (names_of_handlers (play_view play).handlers) items) told made

pub invariant_of-result : goal.invariant_of-result
invariant_of-result c =
    let graph = c.args.nodes.graph in record {
      leads = steps-lead-on c.begin_at-begin.result graph.begin c.in_ok-steps.steps.items graph.tasks.items (ap (λ (t : Target). t.to) c.begin_at-begin.ensures) (c.in_ok-steps.ensures.outlines [] no_parts) graph.leads;
    }
