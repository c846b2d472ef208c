use Rattle.pb_sig.specs.Modules.{modules_of}
use Rattle.pb_play.specs.Sound.{handler_tasks, tasks_in}
use Rattle.pb_play.proofs.Sounds.{both-sound}
use Rattle.pb_play.proofs.read.sections_in.Goals as goal

pub returns-clause-sound : goal.returns-clause-sound
returns-clause-sound c =
    let ms = modules_of c.args.registry.now in
    both-sound ms (tasks_in c.in_ok-pre_tasks.pre_tasks.items) _ c.in_ok-pre_tasks.ensures.sound (both-sound ms (tasks_in c.in_ok-tasks.tasks.items) _ c.in_ok-tasks.ensures.sound
    (both-sound ms (tasks_in c.in_ok-post_tasks.post_tasks.items) (handler_tasks c.in_ok-handlers.handlers.items) c.in_ok-post_tasks.ensures.sound c.in_ok-handlers.ensures.sound))
