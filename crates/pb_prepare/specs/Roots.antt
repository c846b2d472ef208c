-- The roots of what a task evaluates where it stands.
use Rattle.std.specs.Prelude.{List}
use Rattle.pb_language.specs.Expression.{Root}
use Rattle.pb_language.specs.Plays.{append_expressions}
use Rattle.pb_syntax.specs.ExprView.{exprs_view}
use Rattle.pb_task.specs.Tasks.{task_view}
use Rattle.pb_route.specs.Station.{stands_round}
use Rattle.pb_route.specs.declared.station.Station.{Station}
use Rattle.pb_reads.specs.Done.{evaluated}
use Rattle.pb_reads.specs.Roots.{all_roots}

abbrev pub roots_at : Station → List Root
roots_at s = all_roots (evaluated
    (append_expressions (stands_round s).conditions (exprs_view s.task.now.when.items))
    (task_view s.task.now))
