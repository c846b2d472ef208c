-- Plays whose texts don't read the host's own name, the variable `inventory_hostname` (this
-- project's own).
use Rattle.std.specs.Prelude.{◌≡◌, List, [], ◌∷◌, Bool, false, ◌||◌, Option, Some, None, codes}
use Rattle.std.specs.Str.{bytes_eq}
use Rattle.pb_language.specs.Book.{Book, Registry}
use Rattle.pb_language.specs.Expansion.{expanded, trees}
use Rattle.pb_language.specs.Expression.{Name, Expression, literal, path, hostvars_alone, negation}
use Rattle.pb_language.specs.Expression.{conjunction, disjunction, comparison, membership, in_batch}
use Rattle.pb_language.specs.Expression.{defined, undefinable, path_status, value_status, path_or}
use Rattle.pb_language.specs.Expression.{value_or, length_of, joined_by, concatenation, list_of}
use Rattle.pb_language.specs.Expression.{record_of, Root, variable, alias, other, member}
use Rattle.pb_language.specs.Expression.{Expressions, no_expressions, expression, Parts, no_parts}
use Rattle.pb_language.specs.Expression.{part}
use Rattle.pb_language.specs.Plays.{program_of}
use Rattle.pb_language.specs.Program.{Inventory, Program}
use Rattle.pb_language.specs.Rules.{of_task, task_at_site, task_expressions}
use Rattle.pb_language.specs.Sites.{Site, sites_of}
use Rattle.pb_language.specs.Task.{Action, call_of, debug, set_fact, assertion, failure_of}
use Rattle.pb_language.specs.Task.{Attempts, Task, Handlers, no_handlers, handler, Row, end, task}
use Rattle.pb_language.specs.Task.{flush, section, block}

abbrev pub is_own_name : Name → Bool
is_own_name n = bytes_eq n (codes "inventory_hostname")

-- what names a host, the host itself too, is asked of by `reads_others`
abbrev mutual
  pub reads_name : Expression → Bool
  reads_name (literal d) = false
  reads_name (path r ns) = root_reads_name r
  reads_name (hostvars_alone o) = false
  reads_name (negation e) = reads_name e
  reads_name (conjunction es) = any_reads_name es
  reads_name (disjunction es) = any_reads_name es
  reads_name (comparison c a b) = reads_name a || reads_name b
  reads_name (membership a b) = reads_name a || reads_name b
  reads_name (in_batch t) = false
  reads_name (defined r ns) = root_reads_name r
  reads_name (undefinable e) = reads_name e
  reads_name (path_status s r ns) = root_reads_name r
  reads_name (value_status s e) = reads_name e
  reads_name (path_or r ns e) = root_reads_name r || reads_name e
  reads_name (value_or a e) = reads_name a || reads_name e
  reads_name (length_of e) = reads_name e
  reads_name (joined_by e s) = reads_name e || reads_name s
  reads_name (concatenation es) = any_reads_name es
  reads_name (list_of es) = any_reads_name es
  reads_name (record_of ps) = part_reads_name ps

  pub root_reads_name : Root → Bool
  root_reads_name (variable n) = is_own_name n
  root_reads_name (alias n e) = reads_name e
  root_reads_name (other t x) = false
  root_reads_name (member g n) = false

  pub any_reads_name : Expressions → Bool
  any_reads_name no_expressions = false
  any_reads_name (expression e es) = reads_name e || any_reads_name es

  pub part_reads_name : Parts → Bool
  part_reads_name no_parts = false
  part_reads_name (part n e ps) = reads_name e || part_reads_name ps

abbrev pub text_reads_name : Option Expression → Bool
text_reads_name None = false
text_reads_name (Some e) = reads_name e

abbrev pub keyword_reads_name : Option Expressions → Bool
keyword_reads_name None = false
keyword_reads_name (Some es) = any_reads_name es

abbrev pub until_reads_name : Option Attempts → Bool
until_reads_name None = false
until_reads_name (Some a) = any_reads_name a.until

abbrev pub action_reads_name : Action → Bool
action_reads_name (call_of m ps) = part_reads_name ps
action_reads_name (debug e) = reads_name e
action_reads_name (set_fact ps) = part_reads_name ps
action_reads_name (assertion es o) = any_reads_name es || text_reads_name o
action_reads_name (failure_of o) = text_reads_name o

-- some text of the task reads the name
abbrev pub task_reads_name : Task → Bool
task_reads_name t =
    text_reads_name t.loop
    || (any_reads_name t.conditions
    || (action_reads_name t.action
    || (keyword_reads_name t.changed_when
    || (keyword_reads_name t.failed_when || until_reads_name t.attempts))))

abbrev pub handlers_read_name : Handlers → Bool
handlers_read_name no_handlers = false
handlers_read_name (handler n t hs) = task_reads_name t || handlers_read_name hs

abbrev pub row_reads_name : Row → Bool
row_reads_name end = false
row_reads_name (task t row) = task_reads_name t || row_reads_name row
row_reads_name (flush hs row) = handlers_read_name hs || row_reads_name row
row_reads_name (section body hs row) =
    row_reads_name body || (handlers_read_name hs || row_reads_name row)
row_reads_name (block d body saves rescued always row) =
    row_reads_name body || (row_reads_name rescued || (row_reads_name always || row_reads_name row))

abbrev pub plays_read_name : Program → Bool
plays_read_name [] = false
plays_read_name (p ∷ ps) = row_reads_name p.row || plays_read_name ps

-- the same of a book: some text at one of its lines does, with the values of `vars` in it
abbrev pub expanded_reads_name : (Name → Option Expression) → Expressions → Bool
expanded_reads_name f no_expressions = false
expanded_reads_name f (expression e es) = reads_name (expanded f e) || expanded_reads_name f es

abbrev pub site_reads_name : Site → Bool
site_reads_name s = of_task (task_at_site s.thing)
    (λ t. expanded_reads_name (trees s.scope) (task_expressions s.conditions t))

abbrev pub any_reads_name_there : List Site → Bool
any_reads_name_there [] = false
any_reads_name_there (s ∷ ss) = site_reads_name s || any_reads_name_there ss

abbrev pub book_reads_name : Book → Bool
book_reads_name b = any_reads_name_there (sites_of b)

abbrev pub BooksReadNoName : Type 0
BooksReadNoName = (ms : Registry) (inventory : Inventory) (b : Book) → book_reads_name b ≡ false
    → plays_read_name (program_of ms inventory b) ≡ false
