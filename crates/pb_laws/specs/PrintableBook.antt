-- The books that have a print: their lines are counted in the order in which they run, their names
-- can be used, their expressions are written as they are read, and the limits are kept.
use Rattle.std.specs.Prelude.{◌≡◌, ℕ, suc, List, [], ◌∷◌, ◌++◌, length, Bool, true, false, not}
use Rattle.std.specs.Prelude.{◌&&◌, ◌||◌, ◌==◌, nat_le, nat_lt, Option, Some, None, Ok, codes}
use Rattle.std.specs.List.{list_all, list_any, starts_with}
use Rattle.std.specs.Str.{bytes_eq}
use Rattle.pb_semantics.specs.Keeps.{is_among}
use Rattle.pb_language.specs.Book.{Asserted, not_given, not_well_formed, conditions_are, Work}
use Rattle.pb_language.specs.Book.{module_work, debug_work, set_fact_work, assert_work, fail_work}
use Rattle.pb_language.specs.Book.{BlockData, Book, Cut, HandlerData, PlayData, Registry, Steps}
use Rattle.pb_language.specs.Book.{TaskData, block_step, flush_step, host_count, no_steps}
use Rattle.pb_language.specs.Book.{percentage, task_step}
use Rattle.pb_language.specs.BookForm.{book_from, is_blank, is_large_block, is_large_play}
use Rattle.pb_language.specs.BookForm.{most_handlers, most_lines, standing}
use Rattle.pb_language.specs.Expression.{Name, Expression, Expressions, no_expressions, expression}
use Rattle.pb_language.specs.Expression.{Parts, no_parts, part}
use Rattle.pb_language.specs.Inventories.{has_opening}
use Rattle.pb_language.specs.Keywords.{as_handler, is_left_out, keywords_of}
use Rattle.pb_language.specs.Nesting.{holds}
use Rattle.pb_language.specs.Rules.{is_variable_name, option_names, part_names}
use Rattle.pb_language.specs.Task.{Attempts}
use Rattle.pb_language.specs.TaskForm.{builtin_prefix, is_action, is_loop, is_missing}
use Rattle.pb_language.specs.TaskForm.{is_past_limits, module_at, most_retries}
use Rattle.pb_language.specs.Texts.{condition_in, is_condition, is_opaque, value_of}
use Rattle.pb_language.specs.Theorem.{are_distinct}
use Rattle.pb_laws.specs.PrintedBook.{Writing, printed, printed_block, printed_handler}
use Rattle.pb_laws.specs.PrintedBook.{printed_play, printed_steps, printed_task, work_key}

-- what may be left out has the property where it is there
abbrev pub Where : {A : Type 0} → (A → Type 0) → Option A → Type 0
Where P None = Unit {0}
Where P (Some a) = P a

-- what is written for an expression is read as that expression
pub record IsCondition (w : Writing) (e : Expression) : Type 0 where
  pub form : is_condition (w.condition e) ≡ true
  pub read : condition_in (w.condition e) ≡ Some e

-- and no number in a value is other than a whole number of 64 bits
pub record IsValue (w : Writing) (e : Expression) : Type 0 where
  pub numbers : holds is_opaque (w.value e) ≡ false
  pub read : value_of (w.value e) ≡ Some e

abbrev pub AreConditions : Writing → Expressions → Type 0
AreConditions w no_expressions = Unit {0}
AreConditions w (expression e es) = IsCondition w e × AreConditions w es

abbrev pub AreValues : Writing → Parts → Type 0
AreValues w no_parts = Unit {0}
AreValues w (part n e ps) = IsValue w e × AreValues w ps

pub record AreVars (w : Writing) (ps : Parts) : Type 0 where
  pub names : list_all is_variable_name (part_names ps) ≡ true
  pub values : AreValues w ps

-- a name that means something else in a task
abbrev pub is_taken : Name → Bool
is_taken n = is_among n (keywords_of as_handler) || (is_left_out as_handler n
    || (is_action n || (bytes_eq n (codes "meta")
    || starts_with (λ a b. a == b) n builtin_prefix)))

pub record IsModule (ms : Registry) (n : Name) : Type 0 where
  pub known : is_missing (module_at n ms) ≡ false
  pub free : is_taken n ≡ false

abbrev pub IsAsserted : Writing → Asserted → Type 0
IsAsserted w not_given = Unit {0}
IsAsserted w not_well_formed = Unit {0}
IsAsserted w (conditions_are es) = AreConditions w es

abbrev pub IsWork : Registry → Writing → Work → Type 0
IsWork ms w (module_work n ps) = IsModule ms n × AreValues w ps
IsWork ms w (debug_work ps) = AreValues w ps
IsWork ms w (set_fact_work ps) = AreValues w ps
IsWork ms w (assert_work a ps) =
    IsAsserted w a × (is_among (codes "that") (part_names ps) ≡ false) × AreValues w ps
IsWork ms w (fail_work ps) = AreValues w ps

pub record IsLoop (w : Writing) (e : Expression) : Type 0 where
  pub form : is_loop (w.value e) ≡ true
  pub value : IsValue w e

-- only a module's call is repeated, and not in a loop
pub record AreAttempts (w : Writing) (t : TaskData) (a : Attempts) : Type 0 where
  pub until : AreConditions w a.until
  pub retries : nat_le 1 a.retries && nat_le a.retries most_retries ≡ true
  pub once : is_missing t.loop ≡ true
  pub calls : is_action (work_key t.work) ≡ false

abbrev pub IsPlain : Name → Type 0
IsPlain n = has_opening n ≡ false

abbrev pub IsVariable : Name → Type 0
IsVariable n = is_variable_name n ≡ true

pub record IsTask (ms : Registry) (w : Writing) (t : TaskData) : Type 0 where
  pub work : IsWork ms w t.work
  pub condition : AreConditions w t.condition
  pub loop : Where (IsLoop w) t.loop
  pub register : Where IsVariable t.register
  pub vars : AreVars w t.vars
  pub notify : list_any has_opening t.notify ≡ false
  pub changed_when : Where (AreConditions w) t.changed_when
  pub failed_when : Where (AreConditions w) t.failed_when
  pub attempts : Where (AreAttempts w t) t.attempts

-- the number of a line is the one that is due, and there are no more lines than may be
pub record IsLine (due line : ℕ) : Type 0 where
  pub number : line ≡ due
  pub few : nat_lt most_lines due ≡ false

-- the task stands in so many blocks, and nothing in it is past its limit
pub record IsTaskStep (ms : Registry) (w : Writing) (k l : ℕ) (t : TaskData) : Type 0 where
  pub task : IsTask ms w t
  pub line : IsLine l t.line
  pub within : is_past_limits (standing k) (printed_task w t) ≡ false

-- the block stands in so many others
pub record IsBlock (w : Writing) (k l : ℕ) (b : BlockData) (body rescue always : Steps)
    : Type 0 where
  pub condition : AreConditions w b.condition
  pub vars : AreVars w b.vars
  pub line : IsLine l b.line
  pub within : is_large_block k (printed_block w b (printed_steps w body) (printed_steps w rescue)
      (printed_steps w always)) ≡ false

-- the line behind steps of which the first has that line
abbrev pub behind : ℕ → Steps → ℕ
behind l no_steps = l
behind l (task_step t ss) = behind (suc l) ss
behind l (block_step b body rescue always ss) =
    behind (behind (behind (behind (suc l) body) rescue) always) ss
behind l (flush_step m ss) = behind (suc l) ss

-- steps in so many blocks, from that line on; a flush stands in none
abbrev pub AreSteps : Registry → Writing → ℕ → ℕ → Steps → Type 0
AreSteps ms w k l no_steps = Unit {0}
AreSteps ms w k l (task_step t ss) = IsTaskStep ms w k l t × AreSteps ms w k (suc l) ss
AreSteps ms w k l (block_step b body rescue always ss) = IsBlock w k l b body rescue always
    × AreSteps ms w (suc k) (suc l) body
    × AreSteps ms w (suc k) (behind (suc l) body) rescue
    × AreSteps ms w (suc k) (behind (behind (suc l) body) rescue) always
    × AreSteps ms w k (behind (behind (behind (suc l) body) rescue) always) ss
AreSteps ms w k l (flush_step m ss) = (k ≡ 0) × IsLine l m × AreSteps ms w k (suc l) ss

pub record IsHandler (ms : Registry) (w : Writing) (l : ℕ) (h : HandlerData) : Type 0 where
  pub task : IsTask ms w h.work
  pub line : IsLine l h.work.line
  pub name : Where IsPlain h.name
  pub topics : list_any has_opening h.topics ≡ false
  pub within : is_past_limits as_handler (printed_handler w h) ≡ false

-- handlers from that line on
abbrev pub AreHandlers : Registry → Writing → ℕ → List HandlerData → Type 0
AreHandlers ms w l [] = Unit {0}
AreHandlers ms w l (h ∷ hs) = IsHandler ms w l h × AreHandlers ms w (suc l) hs

abbrev pub handler_names : List HandlerData → List Name
handler_names [] = []
handler_names (h ∷ hs) = option_names h.name ++ handler_names hs

abbrev pub behind_handlers : ℕ → List HandlerData → ℕ
behind_handlers l [] = l
behind_handlers l (h ∷ hs) = behind_handlers (suc l) hs

-- a word of a pattern: `:` and `,` would divide it, and blanks round it are not its own
abbrev pub is_divider : ℕ → Bool
is_divider b = (b == 58) || (b == 44)

abbrev pub ends_blank : List ℕ → Bool
ends_blank [] = false
ends_blank (b ∷ []) = is_blank b
ends_blank (b ∷ c ∷ bs) = ends_blank (c ∷ bs)

abbrev pub is_word : Name → Bool
is_word [] = false
is_word (b ∷ bs) = not (is_blank b) && (not (ends_blank (b ∷ bs))
    && not (list_any is_divider (b ∷ bs)))

abbrev pub is_cut : Cut → Bool
is_cut (host_count n) = nat_le 1 n && nat_le n 1024
is_cut (percentage n) = nat_le 1 n && nat_le n 100

-- the line of the first task of a play at that line
abbrev pub behind_gathering : ℕ → Option ℕ → ℕ
behind_gathering l None = suc l
behind_gathering l (Some m) = suc (suc l)

abbrev pub behind_pre_tasks : ℕ → PlayData → ℕ
behind_pre_tasks l p = behind (behind_gathering l p.gathering) p.pre_tasks

abbrev pub behind_tasks : ℕ → PlayData → ℕ
behind_tasks l p = behind (behind_pre_tasks l p) p.tasks

abbrev pub behind_post_tasks : ℕ → PlayData → ℕ
behind_post_tasks l p = behind (behind_tasks l p) p.post_tasks

abbrev pub behind_play : ℕ → PlayData → ℕ
behind_play l p = behind_handlers (behind_post_tasks l p) p.handlers

-- the play behind so many others
pub record IsPlay (ms : Registry) (w : Writing) (i l : ℕ) (p : PlayData) : Type 0 where
  pub line : IsLine l p.line
  pub pattern : list_all is_word p.pattern ≡ true
  pub gathering : Where (IsLine (suc l)) p.gathering
  pub vars : AreVars w p.vars
  pub serial : list_all is_cut p.serial ≡ true
  pub pre_tasks : AreSteps ms w 0 (behind_gathering l p.gathering) p.pre_tasks
  pub tasks : AreSteps ms w 0 (behind_pre_tasks l p) p.tasks
  pub post_tasks : AreSteps ms w 0 (behind_tasks l p) p.post_tasks
  pub handlers : AreHandlers ms w (behind_post_tasks l p) p.handlers
  pub few_handlers : nat_le (length p.handlers) most_handlers ≡ true
  pub own_names : are_distinct (handler_names p.handlers) ≡ true
  pub within : is_large_play i (printed_play w p) ≡ false

abbrev pub ArePlays : Registry → Writing → ℕ → ℕ → Book → Type 0
ArePlays ms w i l [] = Unit {0}
ArePlays ms w i l (p ∷ ps) = IsPlay ms w i l p × ArePlays ms w (suc i) (behind_play l p) ps

-- lines are counted from 1 on
abbrev pub IsPrintable : Registry → Writing → Book → Type 0
IsPrintable ms w b = ArePlays ms w 0 1 b

abbrev pub BooksAreReadBack : Type 0
BooksAreReadBack = (ms : Registry) (w : Writing) (b : Book) → IsPrintable ms w b
    → book_from ms (printed w b) ≡ Ok b
