use Rattle.std.proofs.Common.{◌≡◌, ◌∙◌, [], ap, refl, subst, sym}
use Rattle.pb_language.specs.Plays.{append_parts, task_at}
use Rattle.pb_task.specs.Tasks.{task_view}
use Rattle.pb_template.specs.Entries.{entries_view}
use Rattle.pb_vars.specs.InScope.{in_scope}
use Rattle.pb_vars.specs.Same.{HaveSame}
use Rattle.pb_flow.specs.Nodes.{around_view}
use Rattle.pb_flow.specs.declared.graph.Around.{Around}
use Rattle.pb_judgement.specs.Ends.{Does, IsJudgedIn}
use Rattle.pb_judgement.specs.Surrounded.{manner_at}
use Rattle.pb_judgement.specs.declared.ends.Manner.{Manner}
use Rattle.pb_route.specs.Station.{lone_registry}
use Rattle.pb_route.specs.declared.station.Station.{Station}
use Rattle.pb_route.proofs.Placed.{is_station, lone_resolves, station_among, station_here}
use Rattle.pb_route.proofs.station.Station.of.Goals as goal

pub returns-clause-station : goal.returns-clause-station
returns-clause-station c =
    let task = c.args.task.now in
    let s : Station = record { task = c.args.task; around = c.in_ok-clone.field-0; place = c.args.place; vars = c.in_ok-vars.vars; is_certain = c.is_certain.result; ends = c.in_ok-results.results.ends; own = c.in_ok-results.results.own; facts = c.in_ok-facts_of.field-0 } in
    let a = c.args.around.now.value in
    let play = entries_view c.args.play_vars.now in
    let ms = lone_registry task.work in
    let round = around_view ms play a in
    let t = task_at round c.args.place (task_view task) in
    let m = c.manner_of-manner.result in
    let same = subst (λ (x : Around). HaveSame (in_scope c.in_ok-vars.vars) (append_parts (entries_view task.vars.items) (around_view [] play x).scope)) c.deref.ensures c.in_ok-vars.ensures in
    let here = station_here s a play c.in_ok-clone.ensures.cases same in
    let does : Does task.work t = c.reads_as_it_does.ensures.does ms round c.args.place task refl (lone_resolves task.work) in
    let manner : m ≡ manner_at round task = c.manner_of-manner.ensures ms ∙ ap (λ (x : Around). manner_at (around_view ms play x) task) c.deref-2.ensures in
    let judged : IsJudgedIn m t = subst (λ (x : Manner). IsJudgedIn x t) (sym manner) (c.reads_as_it_does.ensures.judged round c.args.place task) in
    is_station s t m here does judged c.gathers_surely.result c.is_certain.ensures c.gathers_surely.ensures (sym c.in_ok-has_long_chain.ensures ∙ c.if-branch.false)
    (c.in_ok-results.ensures.going t does judged) (c.in_ok-results.ensures.failing t does judged) (c.in_ok-results.ensures.all t does judged)
    (c.in_ok-results.ensures.answered t does) (c.in_ok-results.ensures.judged t does judged) c.in_ok-facts_of.ensures

pub returns-clause-task : goal.returns-clause-task
returns-clause-task c = λ ms found.
    let task = c.args.task.now in
    let s : Station = record { task = c.args.task; around = c.in_ok-clone.field-0; place = c.args.place; vars = c.in_ok-vars.vars; is_certain = c.is_certain.result; ends = c.in_ok-results.results.ends; own = c.in_ok-results.results.own; facts = c.in_ok-facts_of.field-0 } in
    let play = entries_view c.args.play_vars.now in
    let same = subst (λ (x : Around). HaveSame (in_scope c.in_ok-vars.vars) (append_parts (entries_view task.vars.items) (around_view [] play x).scope)) c.deref.ensures c.in_ok-vars.ensures in
    station_among s c.args.around.now.value play c.in_ok-clone.ensures.cases same ms found
