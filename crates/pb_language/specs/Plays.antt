-- How a book runs on an inventory: the rows of its plays, with their places and batches (Ansible's
-- pages on plays, on patterns and on strategies).
use Rattle.std.specs.Prelude.{ℕ, zero, suc, ◌+◌, ◌-◌, ◌*◌, ◌/◌, max, List, [], ◌∷◌, ◌++◌, Bool}
use Rattle.std.specs.Prelude.{true, false, ◌||◌, cond, Option, Some, None, codes, length, unwrap_or}
use Rattle.std.specs.Str.{bytes_eq}
use Rattle.pb_semantics.specs.Data.{null}
use Rattle.pb_semantics.specs.Kind.{never}
use Rattle.pb_semantics.specs.Keeps.{is_among}
use Rattle.pb_semantics.specs.Signature.{ModuleData}
use Rattle.pb_language.specs.Expression.{Name, Expression, literal, Expressions, no_expressions}
use Rattle.pb_language.specs.Expression.{expression, Parts, no_parts, part}
use Rattle.pb_language.specs.Expansion.{expanded, all_expanded, parts_expanded, part_named, trees}
use Rattle.pb_language.specs.World.{Group, HostVariables}
use Rattle.pb_language.specs.Notify.{HandlerNames}
use Rattle.pb_language.specs.Task.{Action, call_of, debug, set_fact, assertion, failure_of}
use Rattle.pb_language.specs.Task.{Attempts, Task}
use Rattle.pb_language.specs.Task.{Handlers, no_handlers, handler, Row, end, task, flush, section}
use Rattle.pb_language.specs.Task.{block}
use Rattle.pb_language.specs.Book.{Asserted, not_given, not_well_formed, conditions_are, Work}
use Rattle.pb_language.specs.Book.{module_work, debug_work, set_fact_work, assert_work, fail_work}
use Rattle.pb_language.specs.Book.{TaskData, BlockData, Steps, no_steps, task_step, block_step}
use Rattle.pb_language.specs.Book.{flush_step, HandlerData, Cut, host_count, percentage, PlayData}
use Rattle.pb_language.specs.Book.{Book, Registry}
use Rattle.pb_language.specs.Program.{Inventory, Play, Program}

abbrev pub append_parts : Parts → Parts → Parts
append_parts no_parts qs = qs
append_parts (part n e ps) qs = part n e (append_parts ps qs)

abbrev pub append_expressions : Expressions → Expressions → Expressions
append_expressions no_expressions fs = fs
append_expressions (expression e es) fs = expression e (append_expressions es fs)

-- what stands round a task
pub record Surroundings : Type 0 where
  pub registry : Registry
  pub conditions : Expressions
  -- the values of `vars`, the innermost first
  pub scope : Parts
  pub ignores : Bool
  pub rescued : Bool
  pub depth : ℕ

-- what no registry holds
abbrev pub no_module : ModuleData
no_module = record { name = []; params = []; ok = never; failure = never; free = None }

abbrev pub module_named : Name → Registry → ModuleData
module_named n [] = no_module
module_named n (m ∷ ms) = cond (bytes_eq n m.name) m (module_named n ms)

abbrev pub argument_or : Option Expression → Expression
argument_or None = literal null
argument_or (Some e) = e

abbrev pub conditions_of : Asserted → Expressions
conditions_of not_given = no_expressions
conditions_of not_well_formed = no_expressions
conditions_of (conditions_are es) = es

abbrev pub expanded_option : (Name → Option Expression) → Option Expression → Option Expression
expanded_option f None = None
expanded_option f (Some e) = Some (expanded f e)

abbrev pub expanded_list : (Name → Option Expression) → Option Expressions → Option Expressions
expanded_list f None = None
expanded_list f (Some es) = Some (all_expanded f es)

abbrev pub expanded_attempts : (Name → Option Expression) → Option Attempts → Option Attempts
expanded_attempts f None = None
expanded_attempts f (Some a) =
    Some (record { until = all_expanded f a.until; retries = a.retries })

abbrev pub action_of : Registry → (Name → Option Expression) → Work → Action
action_of ms f (module_work n ps) = call_of (module_named n ms) (parts_expanded f ps)
action_of ms f (debug_work ps) = debug (expanded f (argument_or (part_named (codes "msg") ps)))
action_of ms f (set_fact_work ps) = set_fact (parts_expanded f ps)
action_of ms f (assert_work a ps) = assertion (all_expanded f (conditions_of a))
    (expanded_option f (part_named (codes "fail_msg") ps))
action_of ms f (fail_work ps) = failure_of (expanded_option f (part_named (codes "msg") ps))

abbrev pub task_with : Surroundings → ℕ → TaskData → (Name → Option Expression) → Task
task_with s p t f = record {
  line = t.line;
  place = p;
  action = action_of s.registry f t.work;
  conditions = all_expanded f (append_expressions s.conditions t.condition);
  loop = expanded_option f t.loop;
  register = t.register;
  changed_when = expanded_list f t.changed_when;
  failed_when = expanded_list f t.failed_when;
  attempts = expanded_attempts f t.attempts;
  ignores = unwrap_or t.ignore_errors s.ignores;
  notifies = t.notify;
  rescued = s.rescued;
  depth = s.depth;
}

-- a task in its surroundings, at its place
abbrev pub task_at : Surroundings → ℕ → TaskData → Task
task_at s p t = task_with s p t (trees (append_parts t.vars s.scope))

-- what a block adds to what stands round it
abbrev pub inside : Surroundings → BlockData → Surroundings
inside s b = record s {
  conditions = append_expressions s.conditions b.condition;
  scope = append_parts b.vars s.scope;
  ignores = unwrap_or b.ignore_errors s.ignores;
}

abbrev pub is_given : Steps → Bool
is_given no_steps = false
is_given (task_step t ss) = true
is_given (block_step b x y z ss) = true
is_given (flush_step l ss) = true

-- the places of a list of steps; a flush has one for each handler
abbrev pub places_in : ℕ → Steps → ℕ
places_in hs no_steps = 0
places_in hs (task_step t ss) = suc (places_in hs ss)
places_in hs (block_step b x y z ss) =
    places_in hs x + (places_in hs y + (places_in hs z + places_in hs ss))
places_in hs (flush_step l ss) = hs + places_in hs ss

-- the handlers of a flush, from this number and this place on
abbrev pub handlers_at : Surroundings → ℕ → ℕ → List HandlerData → Handlers
handlers_at s i p [] = no_handlers
handlers_at s i p (h ∷ hs) = handler i (task_at s p h.work) (handlers_at s (suc i) (suc p) hs)

-- the row of a list of steps from a place on, before what follows it; given the handlers of a flush
-- at a place, and how many they are
abbrev pub row_of : (ℕ → Handlers) → ℕ → Surroundings → ℕ → Steps → Row → Row
row_of hs n s p no_steps row = row
row_of hs n s p (task_step t ss) row = task (task_at s p t) (row_of hs n s (suc p) ss row)
row_of hs n s p (flush_step l ss) row = flush (hs p) (row_of hs n s (n + p) ss row)
row_of hs n s p (block_step b x y z ss) row =
    block s.depth
    (row_of hs n (record (inside s b) { rescued = s.rescued || is_given y }) p x end)
    (is_given y)
    (row_of hs n (record (inside s b) { depth = suc s.depth }) (places_in n x + p) y end)
    (row_of hs n (inside s b) (places_in n y + (places_in n x + p)) z end)
    (row_of hs n s (places_in n z + (places_in n y + (places_in n x + p))) ss row)

-- a section's steps and the flush at its end, which runs after a failure too where it is forced
abbrev pub ended_row : Bool → Handlers → (Row → Row) → Row → Row
ended_row true hs steps row = section (steps end) hs row
ended_row false hs steps row = steps (flush hs row)

-- a section that isn't empty ends with a flush
abbrev pub section_row : (ℕ → Handlers) → ℕ → Surroundings → Bool → ℕ → Steps → (ℕ → Row) → Row
section_row hs n s forces p ss go = cond (is_given ss)
    (ended_row forces (hs (places_in n ss + p)) (row_of hs n s p ss)
    (go (n + (places_in n ss + p)))) (go p)

abbrev pub sections_row : (ℕ → Handlers) → ℕ → Surroundings → ℕ → PlayData → Row
sections_row hs n s p play = section_row hs n s play.forces p play.pre_tasks
    (λ q. section_row hs n s play.forces q play.tasks
    (λ r. section_row hs n s play.forces r play.post_tasks (λ t. end)))

-- the task that gathers facts
abbrev pub gathering_task : ℕ → TaskData
gathering_task l = record {
  line = l;
  work = module_work (codes "setup") no_parts;
  condition = no_expressions;
  loop = None;
  register = None;
  vars = no_parts;
  notify = [];
  changed_when = None;
  failed_when = None;
  attempts = None;
  ignore_errors = None;
}

abbrev pub gathered_row : (ℕ → Handlers) → ℕ → Surroundings → PlayData → Option ℕ → Row
gathered_row hs n s play None = sections_row hs n s 0 play
gathered_row hs n s play (Some l) =
    task (task_at s 0 (gathering_task l)) (sections_row hs n s 1 play)

abbrev pub play_surroundings : Registry → PlayData → Surroundings
play_surroundings ms play = record {
  registry = ms;
  conditions = no_expressions;
  scope = play.vars;
  ignores = false;
  rescued = false;
  depth = 0;
}

abbrev pub play_row : Registry → PlayData → Row
play_row ms play = gathered_row (λ p. handlers_at (play_surroundings ms play) 0 p play.handlers)
    (length play.handlers) (play_surroundings ms play) play play.gathering

-- the hosts of a word of a pattern: of a group of that name, else the host
abbrev pub group_named : Name → List Group → Option (List Name)
group_named n [] = None
group_named n (g ∷ gs) = cond (bytes_eq n g.name) (Some g.hosts) (group_named n gs)

abbrev pub is_host : Name → List HostVariables → Bool
is_host n [] = false
is_host n (x ∷ xs) = bytes_eq n x.name || is_host n xs

abbrev pub word_hosts : Inventory → Name → Option (List Name) → Option (List Name)
word_hosts inventory n (Some hs) = Some hs
word_hosts inventory n None = cond (is_host n inventory.hosts) (Some (n ∷ [])) None

abbrev pub add_hosts : List Name → List Name → List Name
add_hosts ns [] = ns
add_hosts ns (m ∷ ms) = add_hosts (cond (is_among m ns) ns (ns ++ m ∷ [])) ms

-- the union in the order of the words
abbrev pub pattern_hosts : Inventory → List Name → List Name → List Name
pattern_hosts inventory ns [] = ns
pattern_hosts inventory ns (w ∷ ws) = pattern_hosts inventory
    (add_hosts ns (unwrap_or (word_hosts inventory w (group_named w inventory.groups)) [])) ws

-- the size of a batch: a percentage is of all hosts of the play, rounded down, at least 1
abbrev pub cut_size : ℕ → Cut → ℕ
cut_size n (host_count k) = k
cut_size n (percentage k) = max 1 (k * n / 100)

-- the last entry repeats
abbrev pub next_cuts : List Cut → List Cut
next_cuts [] = []
next_cuts (c ∷ []) = c ∷ []
next_cuts (c ∷ d ∷ cs) = d ∷ cs

abbrev pub first_size : ℕ → List Cut → ℕ
first_size n [] = n
first_size n (c ∷ cs) = cut_size n c

-- so many hosts, and those after them
abbrev pub first_hosts : ℕ → List Name → List Name
first_hosts zero hs = []
first_hosts (suc k) [] = []
first_hosts (suc k) (h ∷ hs) = h ∷ first_hosts k hs

abbrev pub other_hosts : ℕ → List Name → List Name
other_hosts zero hs = hs
other_hosts (suc k) [] = []
other_hosts (suc k) (h ∷ hs) = other_hosts k hs

-- each batch has a host at least; the cuts end with the hosts
abbrev pub cut_hosts : ℕ → ℕ → List Cut → List Name → List (List Name)
cut_hosts n zero cs hs = []
cut_hosts n (suc k) cs [] = []
cut_hosts n (suc k) cs (h ∷ hs) = (h ∷ first_hosts (first_size n cs - 1) hs)
    ∷ cut_hosts n k (next_cuts cs) (other_hosts (first_size n cs - 1) hs)

-- without `serial` there is one batch; a play of no host has none
abbrev pub batches_for : List Cut → List Name → List (List Name)
batches_for cs hs = cut_hosts (length hs) (length hs) cs hs

abbrev pub names_of_handlers : List HandlerData → List HandlerNames
names_of_handlers [] = []
names_of_handlers (h ∷ hs) = record { name = h.name; topics = h.topics } ∷ names_of_handlers hs

abbrev pub play_with : Registry → PlayData → List Name → Play
play_with ms play hs = record {
  line = play.line;
  row = play_row ms play;
  hosts = hs;
  is_linear = play.is_linear;
  handlers = names_of_handlers play.handlers;
  batches = batches_for play.serial hs;
}

-- how a book runs
abbrev pub program_of : Registry → Inventory → Book → Program
program_of ms inventory [] = []
program_of ms inventory (p ∷ ps) =
    play_with ms p (pattern_hosts inventory [] p.pattern) ∷ program_of ms inventory ps
