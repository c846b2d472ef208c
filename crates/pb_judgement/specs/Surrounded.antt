-- How the results of a task in its surroundings are judged.
use Rattle.std.specs.Prelude.{◌||◌, is_some, unwrap_or}
use Rattle.pb_language.specs.Cases.{is_conditional}
use Rattle.pb_language.specs.Plays.{Surroundings}
use Rattle.pb_syntax.specs.ExprView.{exprs_view}
use Rattle.pb_task.specs.declared.task.Task.{Task}
use Rattle.pb_judgement.specs.declared.ends.Manner.{Manner}

-- as a condition, `failed_when`, `until` and the errors that are ignored say, the task's own or
-- those round it
abbrev pub manner_at : Surroundings → Task → Manner
manner_at s t = record {
  may_skip = is_conditional s.conditions || is_conditional (exprs_view t.when.items);
  asks_failed = is_some t.failed_when;
  repeats = is_some t.attempts;
  ignores = unwrap_or t.ignore_errors s.ignores;
}
