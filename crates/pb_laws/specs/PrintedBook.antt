-- A book printed in the plainest form: a key stands only where the book has something to say.
use Rattle.std.specs.Prelude.{pos, List, [], ◌∷◌, ◌++◌, Bool, true, false}
use Rattle.std.specs.Prelude.{Option, Some, None, option_map, codes}
use Rattle.std.specs.Fmt.{decimal}
use Rattle.pb_semantics.specs.Data.{Data, Items, Fields, null, boolean, int, text, list, rec}
use Rattle.pb_semantics.specs.Data.{no_items, item, no_fields, field}
use Rattle.pb_language.specs.Book.{Asserted, not_given, not_well_formed, conditions_are, Work}
use Rattle.pb_language.specs.Book.{module_work, debug_work, set_fact_work, assert_work, fail_work}
use Rattle.pb_language.specs.Book.{BlockData, Book, Cut, HandlerData, PlayData, Steps, TaskData}
use Rattle.pb_language.specs.Book.{block_step, flush_step, host_count, no_steps, percentage}
use Rattle.pb_language.specs.Book.{task_step}
use Rattle.pb_language.specs.Expression.{Name, Expression, Expressions, no_expressions, expression}
use Rattle.pb_language.specs.Expression.{Parts, no_parts, part}

-- how an expression is written where a condition stands, and where a value does
pub record Writing : Type 0 where
  pub condition : Expression → Data
  pub value : Expression → Data

-- keys, each with what stands under it where the key is written at all
abbrev pub Entries : Type 0
Entries = List (Name × Option Data)

-- the keys that are written, in front of other fields
abbrev pub written : Entries → Fields → Fields
written [] fs = fs
written ((n, None) ∷ es) fs = written es fs
written ((n, Some d) ∷ es) fs = field n d (written es fs)

-- a list, a record or a `true` that is written only where it says something
abbrev pub some_list : Items → Option Data
some_list no_items = None
some_list (item d ds) = Some (list (item d ds))

abbrev pub some_record : Fields → Option Data
some_record no_fields = None
some_record (field n d fs) = Some (rec (field n d fs))

abbrev pub true_where : Bool → Option Data
true_where true = Some (boolean true)
true_where false = None

abbrev pub conditions : Writing → Expressions → Items
conditions w no_expressions = no_items
conditions w (expression e es) = item (w.condition e) (conditions w es)

abbrev pub values : Writing → Parts → Fields
values w no_parts = no_fields
values w (part n e ps) = field n (w.value e) (values w ps)

abbrev pub texts : List Name → Items
texts [] = no_items
texts (n ∷ ns) = item (text n) (texts ns)

-- conditions that may be given and be none
abbrev pub given_conditions : Writing → Option Expressions → Option Data
given_conditions w es = option_map (λ cs. list (conditions w cs)) es

abbrev pub asserted : Writing → Asserted → Option Data
asserted w not_given = None
asserted w not_well_formed = Some null
asserted w (conditions_are es) = Some (list (conditions w es))

abbrev pub work_key : Work → Name
work_key (module_work n ps) = n
work_key (debug_work ps) = codes "debug"
work_key (set_fact_work ps) = codes "set_fact"
work_key (assert_work a ps) = codes "assert"
work_key (fail_work ps) = codes "fail"

abbrev pub arguments : Writing → Work → Fields
arguments w (module_work n ps) = values w ps
arguments w (debug_work ps) = values w ps
arguments w (set_fact_work ps) = values w ps
arguments w (assert_work a ps) = written ((codes "that", asserted w a) ∷ []) (values w ps)
arguments w (fail_work ps) = values w ps

abbrev pub task_entries : Writing → TaskData → Entries
task_entries w t = (codes "when", some_list (conditions w t.condition))
    ∷ (codes "loop", option_map w.value t.loop)
    ∷ (codes "register", option_map text t.register)
    ∷ (codes "vars", some_record (values w t.vars))
    ∷ (codes "notify", some_list (texts t.notify))
    ∷ (codes "changed_when", given_conditions w t.changed_when)
    ∷ (codes "failed_when", given_conditions w t.failed_when)
    ∷ (codes "until", given_conditions w (option_map (λ a. a.until) t.attempts))
    ∷ (codes "retries", option_map (λ a. int (pos a.retries)) t.attempts)
    ∷ (codes "ignore_errors", option_map boolean t.ignore_errors) ∷ []

abbrev pub printed_task : Writing → TaskData → Fields
printed_task w t = written (task_entries w t)
    (field (work_key t.work) (rec (arguments w t.work)) no_fields)

abbrev pub printed_flush : Fields
printed_flush = field (codes "meta") (text (codes "flush_handlers")) no_fields

-- a block with its body, rescue and always
abbrev pub block_entries : Writing → BlockData → Items → Items → Items → Entries
block_entries w b body rescue always = (codes "block", Some (list body))
    ∷ (codes "rescue", some_list rescue)
    ∷ (codes "always", some_list always)
    ∷ (codes "when", some_list (conditions w b.condition))
    ∷ (codes "vars", some_record (values w b.vars))
    ∷ (codes "ignore_errors", option_map boolean b.ignore_errors) ∷ []

abbrev pub printed_block : Writing → BlockData → Items → Items → Items → Fields
printed_block w b body rescue always = written (block_entries w b body rescue always) no_fields

abbrev pub printed_steps : Writing → Steps → Items
printed_steps w no_steps = no_items
printed_steps w (task_step t ss) = item (rec (printed_task w t)) (printed_steps w ss)
printed_steps w (block_step b body rescue always ss) = item
    (rec (printed_block w b (printed_steps w body) (printed_steps w rescue)
    (printed_steps w always)))
    (printed_steps w ss)
printed_steps w (flush_step l ss) = item (rec printed_flush) (printed_steps w ss)

abbrev pub handler_entries : HandlerData → Entries
handler_entries h = (codes "name", option_map text h.name)
    ∷ (codes "listen", some_list (texts h.topics)) ∷ []

abbrev pub printed_handler : Writing → HandlerData → Fields
printed_handler w h = written (handler_entries h) (printed_task w h.work)

abbrev pub printed_handlers : Writing → List HandlerData → Items
printed_handlers w [] = no_items
printed_handlers w (h ∷ hs) = item (rec (printed_handler w h)) (printed_handlers w hs)

abbrev pub printed_cut : Cut → Data
printed_cut (host_count n) = int (pos n)
printed_cut (percentage n) = text (decimal n ++ codes "%")

abbrev pub printed_cuts : List Cut → Items
printed_cuts [] = no_items
printed_cuts (c ∷ cs) = item (printed_cut c) (printed_cuts cs)

abbrev pub strategy_name : Bool → Option Data
strategy_name true = None
strategy_name false = Some (text (codes "free"))

abbrev pub play_entries : Writing → PlayData → Entries
play_entries w p = (codes "hosts", Some (list (texts p.pattern)))
    ∷ (codes "gather_facts", option_map (λ l. boolean true) p.gathering)
    ∷ (codes "vars", some_record (values w p.vars))
    ∷ (codes "strategy", strategy_name p.is_linear)
    ∷ (codes "serial", some_list (printed_cuts p.serial))
    ∷ (codes "force_handlers", true_where p.forces)
    ∷ (codes "pre_tasks", some_list (printed_steps w p.pre_tasks))
    ∷ (codes "tasks", some_list (printed_steps w p.tasks))
    ∷ (codes "post_tasks", some_list (printed_steps w p.post_tasks))
    ∷ (codes "handlers", some_list (printed_handlers w p.handlers)) ∷ []

abbrev pub printed_play : Writing → PlayData → Fields
printed_play w p = written (play_entries w p) no_fields

abbrev pub printed_plays : Writing → Book → Items
printed_plays w [] = no_items
printed_plays w (p ∷ ps) = item (rec (printed_play w p)) (printed_plays w ps)

abbrev pub printed : Writing → Book → Data
printed w b = list (printed_plays w b)
