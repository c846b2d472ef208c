-- What borrowed entries stand for.
use denote.Ref.{Bor}
use Rattle.std.specs.Prelude.{ℕ, max, List, [], ◌∷◌, map, string_bytes}
use Rattle.pb_language.specs.Expression.{Name, Parts}
use Rattle.pb_syntax.specs.declared.expr.Expr.{size-Expr}
use Rattle.pb_template.specs.Entries.{entries_view}
use Rattle.pb_template.specs.declared.entry.Entry.{Entry}

abbrev pub borrowed_view : List (Bor Entry) → Parts
borrowed_view es = entries_view (map (λ e. e.now) es)

abbrev pub entry_name : Bor Entry → Name
entry_name e = string_bytes e.now.name.value

-- the greatest size of their values
abbrev pub greatest_of : List (Bor Entry) → ℕ
greatest_of [] = 0
greatest_of (e ∷ es) = max (size-Expr e.now.value) (greatest_of es)
