-- What borrowed roots stand for.
use denote.Ref.{Bor}
use Rattle.std.specs.Prelude.{List, map}
use Rattle.pb_language.specs.Expression.{Root}
use Rattle.pb_syntax.specs.ExprView.{root_view}
use Rattle.pb_syntax.specs.declared.expr.Root.{Root as WrittenRoot}

abbrev pub roots_view : List (Bor WrittenRoot) → List Root
roots_view rs = map (λ r. root_view r.now) rs
