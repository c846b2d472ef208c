-- Texts with a root of which something holds: those of expressions, of tasks, of plays and of a
-- book (this project's own).
use Rattle.std.specs.Prelude.{List, [], ◌∷◌, Bool, false, ◌||◌, Option, Some, None}
use Rattle.pb_language.specs.Book.{Book}
use Rattle.pb_language.specs.Expansion.{expanded, trees}
use Rattle.pb_language.specs.Expression.{Name, Expression, literal, path, hostvars_alone, negation}
use Rattle.pb_language.specs.Expression.{conjunction, disjunction, comparison, membership, in_batch}
use Rattle.pb_language.specs.Expression.{defined, undefinable, path_status, value_status, path_or}
use Rattle.pb_language.specs.Expression.{value_or, length_of, joined_by, concatenation, list_of}
use Rattle.pb_language.specs.Expression.{record_of, Root, variable, alias, other, member}
use Rattle.pb_language.specs.Expression.{Expressions, no_expressions, expression, Parts, no_parts}
use Rattle.pb_language.specs.Expression.{part}
use Rattle.pb_language.specs.Program.{Program}
use Rattle.pb_language.specs.Rules.{of_task, task_at_site, task_expressions}
use Rattle.pb_language.specs.Sites.{Site, sites_of}
use Rattle.pb_language.specs.Task.{Action, call_of, debug, set_fact, assertion, failure_of}
use Rattle.pb_language.specs.Task.{Attempts, Task, Handlers, no_handlers, handler, Row, end, task}
use Rattle.pb_language.specs.Task.{flush, section, block}

module _ (holds : Root → Bool) where
  -- a value of `vars` has the roots of its text
  abbrev mutual
    pub has_root : Expression → Bool
    has_root (literal d) = false
    has_root (path r ns) = root_holds r
    has_root (hostvars_alone o) = false
    has_root (negation e) = has_root e
    has_root (conjunction es) = any_has_root es
    has_root (disjunction es) = any_has_root es
    has_root (comparison c a b) = has_root a || has_root b
    has_root (membership a b) = has_root a || has_root b
    has_root (in_batch t) = false
    has_root (defined r ns) = root_holds r
    has_root (undefinable e) = has_root e
    has_root (path_status s r ns) = root_holds r
    has_root (value_status s e) = has_root e
    has_root (path_or r ns e) = root_holds r || has_root e
    has_root (value_or a e) = has_root a || has_root e
    has_root (length_of e) = has_root e
    has_root (joined_by e s) = has_root e || has_root s
    has_root (concatenation es) = any_has_root es
    has_root (list_of es) = any_has_root es
    has_root (record_of ps) = part_has_root ps

    pub root_holds : Root → Bool
    root_holds (variable n) = holds (variable n)
    root_holds (alias n e) = has_root e
    root_holds (other t x) = holds (other t x)
    root_holds (member g n) = holds (member g n)

    pub any_has_root : Expressions → Bool
    any_has_root no_expressions = false
    any_has_root (expression e es) = has_root e || any_has_root es

    pub part_has_root : Parts → Bool
    part_has_root no_parts = false
    part_has_root (part n e ps) = has_root e || part_has_root ps

  abbrev pub text_has_root : Option Expression → Bool
  text_has_root None = false
  text_has_root (Some e) = has_root e

  abbrev pub keyword_has_root : Option Expressions → Bool
  keyword_has_root None = false
  keyword_has_root (Some es) = any_has_root es

  abbrev pub until_has_root : Option Attempts → Bool
  until_has_root None = false
  until_has_root (Some a) = any_has_root a.until

  abbrev pub action_has_root : Action → Bool
  action_has_root (call_of m ps) = part_has_root ps
  action_has_root (debug e) = has_root e
  action_has_root (set_fact ps) = part_has_root ps
  action_has_root (assertion es o) = any_has_root es || text_has_root o
  action_has_root (failure_of o) = text_has_root o

  -- some text of the task has one
  abbrev pub task_has_root : Task → Bool
  task_has_root t =
      text_has_root t.loop
      || (any_has_root t.conditions
      || (action_has_root t.action
      || (keyword_has_root t.changed_when
      || (keyword_has_root t.failed_when || until_has_root t.attempts))))

  abbrev pub handlers_have_root : Handlers → Bool
  handlers_have_root no_handlers = false
  handlers_have_root (handler n t hs) = task_has_root t || handlers_have_root hs

  abbrev pub row_has_root : Row → Bool
  row_has_root end = false
  row_has_root (task t row) = task_has_root t || row_has_root row
  row_has_root (flush hs row) = handlers_have_root hs || row_has_root row
  row_has_root (section body hs row) =
      row_has_root body || (handlers_have_root hs || row_has_root row)
  row_has_root (block d body saves rescued always row) =
      row_has_root body || (row_has_root rescued || (row_has_root always || row_has_root row))

  abbrev pub plays_have_root : Program → Bool
  plays_have_root [] = false
  plays_have_root (p ∷ ps) = row_has_root p.row || plays_have_root ps

  -- the same of a book: some text at one of its lines does, with the values of `vars` in it
  abbrev pub expanded_has_root : (Name → Option Expression) → Expressions → Bool
  expanded_has_root f no_expressions = false
  expanded_has_root f (expression e es) = has_root (expanded f e) || expanded_has_root f es

  abbrev pub site_has_root : Site → Bool
  site_has_root s = of_task (task_at_site s.thing)
      (λ t. expanded_has_root (trees s.scope) (task_expressions s.conditions t))

  abbrev pub any_site_has_root : List Site → Bool
  any_site_has_root [] = false
  any_site_has_root (s ∷ ss) = site_has_root s || any_site_has_root ss

  abbrev pub book_has_root : Book → Bool
  book_has_root b = any_site_has_root (sites_of b)
