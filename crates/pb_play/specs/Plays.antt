-- What steps, handlers and plays stand for.
use Rattle.std.specs.Prelude.{List, [], ◌∷◌, ◌++◌, Bool, true, false, map, option_map, string_bytes}
use Rattle.pb_language.specs.Book as language
use Rattle.pb_language.specs.Book.{BlockData, HandlerData, PlayData, Steps, no_steps, task_step}
use Rattle.pb_language.specs.Book.{block_step, flush_step, host_count, percentage}
use Rattle.pb_language.specs.BookForm.{Before, words_from}
use Rattle.pb_language.specs.Expression.{Name}
use Rattle.pb_syntax.specs.ExprView.{exprs_view}
use Rattle.pb_template.specs.Entries.{entries_view}
use Rattle.pb_task.specs.Tasks.{names_view, task_view}
use Rattle.pb_play.specs.declared.play.BlockHead.{BlockHead}
use Rattle.pb_play.specs.declared.play.Cut.{Cut}
use Rattle.pb_play.specs.declared.play.Cut.TheVariants.{Hosts, Percentage}
use Rattle.pb_play.specs.declared.play.Handler.{Handler}
use Rattle.pb_play.specs.declared.play.Play.{Play}
use Rattle.pb_play.specs.declared.play.Step.{Step, fold-Step}
use Rattle.pb_play.specs.declared.play.Step.TheOpen.{Step-F}
use Rattle.pb_play.specs.declared.play.Strategy.{Strategy}
use Rattle.pb_play.specs.declared.play.Strategy.TheVariants.{Linear, Free}

abbrev pub head_view : BlockHead → BlockData
head_view h = record {
  line = h.line;
  condition = exprs_view h.when.items;
  vars = entries_view h.vars.items;
  ignore_errors = h.ignore_errors;
}

-- steps, one in front of the others
abbrev pub steps_of : List Before → Steps
steps_of [] = no_steps
steps_of (f ∷ fs) = f (steps_of fs)

-- one level, with the steps inside already seen
abbrev pub step_layer : Step-F Before → Before
step_layer (Step-F.Task t) ss = task_step (task_view t) ss
step_layer (Step-F.Block b) ss = block_step (head_view b.head) (steps_of b.body.items)
    (steps_of b.rescue.items) (steps_of b.always.items) ss
step_layer (Step-F.Flush l) ss = flush_step l ss

abbrev pub step_view : Step → Before
step_view = fold-Step Before step_layer

abbrev pub steps_view : List Step → Steps
steps_view ss = steps_of (map step_view ss)

abbrev pub handler_view : Handler → HandlerData
handler_view h = record {
  work = task_view h.task;
  name = option_map (λ n. string_bytes n.value) h.name;
  topics = names_view h.topics.items;
}

abbrev pub cut_view : Cut → language.Cut
cut_view (Hosts n) = host_count n
cut_view (Percentage n) = percentage n

-- the words of the texts of a pattern
abbrev pub words_in : List Name → List Name
words_in [] = []
words_in (bs ∷ ns) = words_from [] bs ++ words_in ns

abbrev pub is_linear : Strategy → Bool
is_linear Linear = true
is_linear Free = false

abbrev pub play_view : Play → PlayData
play_view p = record {
  line = p.line;
  pattern = words_in (names_view p.pattern.items);
  gathering = p.gathering;
  vars = entries_view p.vars.items;
  is_linear = is_linear p.strategy;
  serial = map cut_view p.serial.items;
  pre_tasks = steps_view p.pre_tasks.items;
  tasks = steps_view p.tasks.items;
  post_tasks = steps_view p.post_tasks.items;
  handlers = map handler_view p.handlers.items;
  forces = p.force_handlers;
}
