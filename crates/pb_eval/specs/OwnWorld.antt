-- A world in which a host has these variables, and in which nothing else is known; what stands for
-- an outcome, and at the end of a path.
use Rattle.std.specs.Prelude.{List, [], ℕ, Option, Some, None}
use Rattle.pb_semantics.specs.Data.{Data, Fields, rec, opaque, field_value}
use Rattle.pb_language.specs.Expression.{Name}
use Rattle.pb_language.specs.World.{World}
use Rattle.pb_language.specs.Evaluation.{Outcome, value, stuck, wrong_sort, value_below, found}
use Rattle.pb_language.specs.Evaluation.{Look, there, absent, failing}
use Rattle.pb_value.specs.View.{view}
use Rattle.pb_eval.specs.declared.look.Look.{Look as MadeLook}
use Rattle.pb_eval.specs.declared.look.Look.TheVariants as looks

abbrev pub own_world : Fields → World
own_world fs = record { mine = fs; this = []; hosts = []; batch = []; groups = [] }

-- what stands for an expression without a value is what may not be read
abbrev pub shown : Outcome → Data
shown (value d) = d
shown (stuck s) = opaque

-- the value, where there is one
abbrev pub value_read : Outcome → Option Data
value_read (value d) = Some d
value_read (stuck s) = None

-- a field, where the value is a record that has it
abbrev pub field_in : List ℕ → Data → Option Data
field_in n (rec fs) = field_value n fs
field_in n d = None

-- what stands at the end of the steps; the reason why nothing can be looked up isn't kept
abbrev pub end_of : List Name → Look → Look
end_of ns (there d) = found (value_read (value_below ns d))
end_of ns absent = absent
end_of ns (failing s) = failing wrong_sort

abbrev pub look_view : MadeLook → Look
look_view (looks.There v) = there (view v)
look_view looks.Absent = absent
look_view looks.Failing = failing wrong_sort
