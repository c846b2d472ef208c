-- The order of what tasks are given.
use Rattle.std.specs.Prelude.{List, [], ◌∷◌, Bool, true, ◌&&◌}
use Rattle.pb_template.specs.Entries.{are_ascending, entry_names}
use Rattle.pb_task.specs.declared.task.Task.{Task}

-- its arguments and its variables stand in the order of their names' bytes, each name once
abbrev pub is_in_order : Task → Bool
is_in_order t = are_ascending (entry_names t.arguments.items)
    && are_ascending (entry_names t.vars.items)

abbrev pub are_in_order : List Task → Bool
are_in_order [] = true
are_in_order (t ∷ ts) = is_in_order t && are_in_order ts
