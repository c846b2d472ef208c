-- Books with a text that reads something of which a question doesn't hold (this project's own).
use Rattle.std.specs.Prelude.{List, [], ◌∷◌, Bool, false, not, ◌||◌}
use Rattle.pb_language.specs.Expansion.{trees}
use Rattle.pb_language.specs.Rules.{of_task, task_at_site, task_expressions}
use Rattle.pb_language.specs.Sites.{Site}
use Rattle.pb_vars.specs.Reads.{Read, expanded_every_read}

-- a task's text at the line reads such a thing, with the values of `vars` in it
abbrev pub site_denied : (Read → Bool) → Site → Bool
site_denied f s = of_task (task_at_site s.thing)
    (λ t. not (expanded_every_read (trees s.scope) f (task_expressions s.conditions t)))

abbrev pub any_denied : (Read → Bool) → List Site → Bool
any_denied f [] = false
any_denied f (s ∷ ss) = site_denied f s || any_denied f ss
