-- The tasks of steps and of plays, and what is so of each: its module is the registry's, and its
-- arguments and variables stand in their order.
use Rattle.std.specs.Prelude.{List, [], ◌∷◌, ◌++◌, map, Option, Some, None}
use Rattle.pb_language.specs.Book.{Registry}
use Rattle.pb_task.specs.Tasks.{IsOrdered, IsResolved}
use Rattle.pb_task.specs.declared.task.Task.{Task}
use Rattle.pb_play.specs.declared.play.Handler.{Handler}
use Rattle.pb_play.specs.declared.play.Play.{Play}
use Rattle.pb_play.specs.declared.play.Step.{Step, fold-Step}
use Rattle.pb_play.specs.declared.play.Step.TheOpen.{Step-F}
use Rattle.pb_play.specs.declared.read.Sections as code

abbrev pub joined : List (List Task) → List Task
joined [] = []
joined (ts ∷ more) = ts ++ joined more

-- one level, with the tasks inside already listed
abbrev pub tasks_layer : Step-F (List Task) → List Task
tasks_layer (Step-F.Task t) = t ∷ []
tasks_layer (Step-F.Block b) =
    joined b.body.items ++ (joined b.rescue.items ++ joined b.always.items)
tasks_layer (Step-F.Flush l) = []

abbrev pub step_tasks : Step → List Task
step_tasks = fold-Step (List Task) tasks_layer

abbrev pub tasks_in : List Step → List Task
tasks_in ss = joined (map step_tasks ss)

abbrev pub handler_tasks : List Handler → List Task
handler_tasks hs = map (λ h. h.task) hs

abbrev pub section_tasks : code.Sections → List Task
section_tasks s = tasks_in s.pre_tasks.items ++ (tasks_in s.tasks.items
    ++ (tasks_in s.post_tasks.items ++ handler_tasks s.handlers.items))

abbrev pub play_tasks : Play → List Task
play_tasks p = tasks_in p.pre_tasks.items ++ (tasks_in p.tasks.items
    ++ (tasks_in p.post_tasks.items ++ handler_tasks p.handlers.items))

abbrev pub all_tasks : List Play → List Task
all_tasks ps = joined (map play_tasks ps)

abbrev pub as_list : Option Task → List Task
as_list None = []
as_list (Some t) = t ∷ []

abbrev pub IsSound : Registry → Task → Type 0
IsSound ms t = IsResolved ms t × IsOrdered t

abbrev pub AreSound : Registry → List Task → Type 0
AreSound ms [] = Unit {0}
AreSound ms (t ∷ ts) = IsSound ms t × AreSound ms ts
