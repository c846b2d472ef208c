use Rattle.std.proofs.Common.{◌≡◌, ◌++◌, ◌+◌, map, drop, length, string_bytes}
use Rattle.pb_language.specs.Cases.{action_name}
use Rattle.pb_history.specs.Jobs.{pass_calls}
use Rattle.pb_start.specs.Words.{action_view, pass_view}
use Rattle.pb_syntax.specs.Words.{Trees}
use Rattle.pb_jobs.specs.Calls.{call_data}
use Rattle.pb_jobs.proofs.calls.calls_of.Given as goal

abbrev pub invariant-loop-pass : goal.invariant-loop-pass
invariant-loop-pass l = (f : Trees) → pass_calls l.host (string_bytes l.task.name.now.value) (action_name (action_view f l.task.task.now.action)) (map pass_view l.passes) l.task.before
    ≡ map call_data l.calls.items ++ pass_calls l.host (string_bytes l.task.name.now.value) (action_name (action_view f l.task.task.now.action)) (map pass_view (drop l.pass-index l.passes)) (l.task.before + length l.calls.items)
