use Rattle.std.proofs.Common.{rules, ◌≡◌, Some, option_map, sym, ap, ◌∙◌}
use Rattle.pb_task.specs.Tasks.{task_view}
use Rattle.pb_play.specs.Parts.{step_with}
use Rattle.pb_play.specs.Plays.{step_view}
use Rattle.pb_play.specs.declared.play.Step.TheVariants.{Task}
use Rattle.pb_play.specs.declared.play.Step.{the_lemmas as step_lemmas}
use Rattle.pb_play.proofs.steps.step_with.Goals as goal

pub returns-in-Some-clause-given : goal.returns-in-Some-clause-given
returns-in-Some-clause-given c =
    let one : step_view (Task c.in-Some.task) ≡ step_with c.args.line (Some (task_view c.in-Some.task)) = search (rules, step_lemmas) in
    one ∙ ap (λ o. step_with c.args.line (option_map task_view o)) (sym c.in-Some.is)
