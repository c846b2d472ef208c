-- What names with expressions stand for, and their order.
use Rattle.std.specs.Prelude.{List, [], ◌∷◌, map, Bool, true, false, Option, Some, None}
use Rattle.std.specs.Prelude.{string_bytes}
use Rattle.std.specs.Str.{bytes_eq}
pub use Rattle.pb_semantics.specs.Ascending.{are_ascending, is_below}
use Rattle.pb_semantics.specs.Data.{Fields}
use Rattle.pb_language.specs.Expression.{Name, Parts, no_parts, part}
use Rattle.pb_language.specs.TaskForm.{without_field}
use Rattle.pb_syntax.specs.ExprView.{expr_view}
use Rattle.pb_template.specs.declared.entry.Entry.{Entry}

abbrev pub entries_view : List Entry → Parts
entries_view [] = no_parts
entries_view (e ∷ es) = part (string_bytes e.name.value) (expr_view e.value) (entries_view es)

abbrev pub entry_names : List Entry → List Name
entry_names es = map (λ e. string_bytes e.name.value) es

abbrev pub is_that : Option Name → Name → Bool
is_that None m = false
is_that (Some n) m = bytes_eq n m

-- the fields but that one, if any
abbrev pub but : Option Name → Fields → Fields
but None fs = fs
but (Some n) fs = without_field n fs
