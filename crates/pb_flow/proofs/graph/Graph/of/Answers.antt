use Rattle.std.proofs.Common.{◌≡◌, ◌∙◌, [], length, ap, sym}
use Rattle.std.proofs.lemmas.List.{length-map}
use Rattle.pb_language.specs.Links.{size}
use Rattle.pb_language.specs.Plays.{play_row}
use Rattle.pb_play.specs.Plays.{play_view}
use Rattle.pb_template.specs.Entries.{entries_view}
use Rattle.pb_flow.specs.Nodes.{node_task}
use Rattle.pb_flow.proofs.Leads.{all-lead}
use Rattle.pb_flow.proofs.Sections.{steps-links, steps-tasks}
use Rattle.pb_flow.proofs.Sizes.{row-tasks}
use Rattle.pb_flow.proofs.graph.Graph.of.Goals as goal

pub invariant_of-result : goal.invariant_of-result
invariant_of-result c =
    let play = c.args.play.now in
    let vars = entries_view play.vars.items in
    let row = play_row [] (play_view play) in
    let ns = c.in_ok-begin.tasks.items in
    let tasks = steps-tasks [] vars row ns (c.in_ok-begin.ensures.steps []) in
    let links = steps-links [] vars row ns (c.in_ok-begin.ensures.steps []) in
    let number : length ns ≡ size row = sym (length-map ns (node_task [] vars)) ∙ ap length tasks ∙ row-tasks row in
    record { leads = all-lead [] vars row c.in_ok-begin.begin ns (c.in_ok-begin.ensures.begin []) links number }
