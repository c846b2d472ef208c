-- What a test changes of what is known of the value at a root.
use Rattle.std.specs.Prelude.{List}
use Rattle.pb_semantics.specs.Kind.{Spot}
use Rattle.pb_language.specs.Expression.{Name}
use Rattle.pb_language.specs.Narrow.{answers, cases_with, changed_at, changed_spot, defined_at}
use Rattle.pb_language.specs.Narrow.{on_results, there_spot}
use Rattle.pb_syntax.specs.ExprView.{status_view}
use Rattle.pb_expr.specs.declared.change.Change.{Change}
use Rattle.pb_expr.specs.declared.change.Change.TheVariants.{There, Answered}

abbrev pub change_view : Change → List Name → Spot → Spot
change_view There ns = there_spot (defined_at ns)
change_view (Answered s b) ns =
    changed_spot (changed_at ns (on_results (cases_with (answers (status_view s) b))))
