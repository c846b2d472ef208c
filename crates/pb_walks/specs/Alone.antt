-- Plays whose texts read no other host and not who is active: what hosts look like to each other
-- plays no part in them, so one round of the tables is enough (this project's own).
use Rattle.std.specs.Prelude.{◌≡◌, List, [], ◌∷◌, Bool, true, false, ◌||◌, Option, Some, None}
use Rattle.pb_language.specs.Book.{Book, Registry}
use Rattle.pb_language.specs.Expansion.{trees}
use Rattle.pb_language.specs.Expression.{Expression}
use Rattle.pb_language.specs.OwnReads.{keyword_reads_others, until_reads_others}
use Rattle.pb_language.specs.Plays.{program_of}
use Rattle.pb_language.specs.Program.{Inventory, Program}
use Rattle.pb_language.specs.Rules.{any_reads_others, expanded_reads, of_task, part_reads_others}
use Rattle.pb_language.specs.Rules.{reads_others, task_at_site, task_expressions}
use Rattle.pb_language.specs.Scope.{Later, View}
use Rattle.pb_language.specs.Sites.{Site, sites_of}
use Rattle.pb_language.specs.Tables.{HostWalk, all_walked, budget_of, known_views, next_views}
use Rattle.pb_language.specs.Tables.{views_after}
use Rattle.pb_language.specs.Task.{Action, call_of, debug, set_fact, assertion, failure_of, Task}
use Rattle.pb_language.specs.Task.{Handlers, no_handlers, handler, Row, end, task, flush, section}
use Rattle.pb_language.specs.Task.{block}
use Rattle.pb_language.specs.Theorem.{are_distinct, host_names}
use Rattle.pb_language.specs.Verdict.{accepted, first_offence, flow_verdict, found_laters}
use Rattle.pb_language.specs.Verdict.{offence_verdict}
use Rattle.pb_walks.specs.Agree.{AllHostsAgree, ViewsAgree}

abbrev pub text_reads_others : Option Expression → Bool
text_reads_others None = false
text_reads_others (Some e) = reads_others e

abbrev pub action_reads_others : Action → Bool
action_reads_others (call_of m ps) = part_reads_others ps
action_reads_others (debug e) = reads_others e
action_reads_others (set_fact ps) = part_reads_others ps
action_reads_others (assertion es o) = any_reads_others es || text_reads_others o
action_reads_others (failure_of o) = text_reads_others o

-- some text of the task reads another host, or who is active
abbrev pub task_reads_others : Task → Bool
task_reads_others t =
    text_reads_others t.loop
    || (any_reads_others t.conditions
    || (action_reads_others t.action
    || (keyword_reads_others t.changed_when
    || (keyword_reads_others t.failed_when || until_reads_others t.attempts))))

abbrev pub handlers_read_others : Handlers → Bool
handlers_read_others no_handlers = false
handlers_read_others (handler n t hs) = task_reads_others t || handlers_read_others hs

abbrev pub row_reads_others : Row → Bool
row_reads_others end = false
row_reads_others (task t row) = task_reads_others t || row_reads_others row
row_reads_others (flush hs row) = handlers_read_others hs || row_reads_others row
row_reads_others (section body hs row) =
    row_reads_others body || (handlers_read_others hs || row_reads_others row)
row_reads_others (block d body saves rescued always row) =
    row_reads_others body
    || (row_reads_others rescued || (row_reads_others always || row_reads_others row))

abbrev pub plays_read_others : Program → Bool
plays_read_others [] = false
plays_read_others (p ∷ ps) = row_reads_others p.row || plays_read_others ps

-- the same of a book: some text at one of its lines does, with the values of `vars` in it
abbrev pub site_reads_others : Site → Bool
site_reads_others s = of_task (task_at_site s.thing)
    (λ t. expanded_reads (trees s.scope) (task_expressions s.conditions t))

abbrev pub any_reads_others_there : List Site → Bool
any_reads_others_there [] = false
any_reads_others_there (s ∷ ss) = site_reads_others s || any_reads_others_there ss

abbrev pub book_reads_others : Book → Bool
book_reads_others b = any_reads_others_there (sites_of b)

abbrev pub BooksReadAlone : Type 0
BooksReadAlone = (ms : Registry) (inventory : Inventory) (b : Book) → book_reads_others b ≡ false
    → plays_read_others (program_of ms inventory b) ≡ false

-- what one round comes to, from what the inventory says and whatever hosts have at later places, is
-- what the fourth comes to; its kinds are settled
abbrev pub OneRoundIsEnough : Type 0
OneRoundIsEnough = (inventory : Inventory) (ps : Program) (ls : List (List Later))
    (ws : List HostWalk) (vs : List View) → are_distinct (host_names inventory.hosts) ≡ true
    → plays_read_others ps ≡ false
    → AllHostsAgree ws (all_walked inventory ps (known_views inventory.hosts) ls)
    → ViewsAgree vs (next_views ws (known_views inventory.hosts))
    → ViewsAgree vs (views_after 4 inventory ps (found_laters ps inventory))
    × (offence_verdict (first_offence ws) (accepted (budget_of ws)) ≡ flow_verdict ps inventory)
