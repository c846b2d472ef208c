-- A book that has every keyword is printable, and is read back: the law is not about nothing.
use Rattle.std.specs.Prelude.{◌≡◌, refl, ℕ, nat_lt, [], ◌∷◌, ◌++◌, true, false, Some, None, Ok, codes}
use Rattle.std.specs.Fmt.{digits}
use Rattle.pb_semantics.specs.Data.{Data, null, boolean, text}
use Rattle.pb_language.specs.Book.{BlockData, Book, PlayData, TaskData, HandlerData, Work, Steps, block_step, flush_step, host_count, no_steps, percentage, task_step}
use Rattle.pb_language.specs.Book.{module_work, debug_work, set_fact_work, assert_work, fail_work, conditions_are, not_given, not_well_formed}
use Rattle.pb_language.specs.BookForm.{book_from, most_lines}
use Rattle.pb_language.specs.Builtins.{builtins}
use Rattle.pb_language.specs.Expression.{Name, Expression, Expressions, Parts, literal, path, variable, no_expressions, expression, no_parts, part}
use Rattle.pb_language.specs.Texts.{condition_in, value_of}
use Rattle.pb_laws.specs.PrintedBook.{Writing, printed}
use Rattle.pb_laws.specs.PrintableBook.{AreSteps, AreVars, IsBlock, IsCondition, IsHandler, IsLine, IsPlay, IsPrintable, IsTask, IsValue, IsWork}

-- literals and variables as they are written
abbrev pub condition_text : Expression → Data
condition_text (literal d) = d
condition_text (path (variable n) ns) = text n
condition_text e = null

abbrev pub value_text : Expression → Data
value_text (literal d) = d
value_text (path (variable n) ns) = text (codes "{{ " ++ (n ++ codes " }}"))
value_text e = null

abbrev pub writing : Writing
writing = record { condition = condition_text; value = value_text }

abbrev pub read : Name → Expression
read n = path (variable n) []

abbrev pub lone : Name → Expressions
lone n = expression (read n) no_expressions

abbrev pub both : Name → Name → Expressions
both n m = expression (read n) (expression (read m) no_expressions)

abbrev pub argument : Name → Name → Parts
argument n m = part n (read m) no_parts

abbrev pub does : Work → TaskData
does w = record {
  line = 0;
  work = w;
  condition = no_expressions;
  loop = None;
  register = None;
  vars = no_parts;
  notify = [];
  changed_when = None;
  failed_when = None;
  attempts = None;
  ignore_errors = None;
}

abbrev pub repeated : TaskData
repeated = record {
  line = 4;
  work = module_work (codes "command") (argument (codes "cmd") (codes "order"));
  condition = both (codes "ready") (codes "willing");
  loop = None;
  register = Some (codes "out");
  vars = argument (codes "order") (codes "command_line");
  notify = codes "restart" ∷ codes "reload" ∷ [];
  changed_when = Some (lone (codes "moved"));
  failed_when = Some (lone (codes "broken"));
  attempts = Some (record { until = lone (codes "done"); retries = 7 });
  ignore_errors = Some true;
}

abbrev pub looped : TaskData
looped = record {
  line = 9;
  work = debug_work (argument (codes "msg") (codes "item"));
  condition = no_expressions;
  loop = Some (read (codes "names"));
  register = None;
  vars = no_parts;
  notify = [];
  changed_when = Some (expression (literal (boolean false)) no_expressions);
  failed_when = None;
  attempts = None;
  ignore_errors = Some false;
}

abbrev pub outer : BlockData
outer = record {
  line = 5;
  condition = lone (codes "wanted");
  vars = argument (codes "depth") (codes "one");
  ignore_errors = Some true;
}

abbrev pub inner : BlockData
inner = record { line = 7; condition = no_expressions; vars = no_parts; ignore_errors = None }

abbrev pub body : Steps
body = task_step (record (does (set_fact_work (argument (codes "fact") (codes "found")))) { line = 6 })
    (block_step inner (task_step (record (does (debug_work no_parts)) { line = 8 }) no_steps) no_steps no_steps no_steps)

abbrev pub rescue : Steps
rescue = task_step looped no_steps

abbrev pub always : Steps
always = task_step (record (does (fail_work (argument (codes "msg") (codes "reason")))) { line = 10 }) no_steps

abbrev pub asserting : Steps
asserting = task_step (record (does (assert_work (conditions_are (lone (codes "sound"))) (argument (codes "fail_msg") (codes "reason")))) { line = 12 })
    (task_step (record (does (assert_work not_given no_parts)) { line = 13 })
    (task_step (record (does (assert_work not_well_formed no_parts)) { line = 14 }) no_steps))

abbrev pub restart : HandlerData
restart = record {
  work = record (does (module_work (codes "ping") no_parts)) { line = 15 };
  name = Some (codes "restart");
  topics = codes "all" ∷ codes "services" ∷ [];
}

abbrev pub reload : HandlerData
reload = record {
  work = record (does (module_work (codes "ping") no_parts)) { line = 16; notify = codes "restart" ∷ [] };
  name = None;
  topics = codes "reload" ∷ [];
}

abbrev pub first_play : PlayData
first_play = record {
  line = 1;
  pattern = codes "web" ∷ codes "!old" ∷ [];
  gathering = Some 2;
  vars = argument (codes "names") (codes "all_names");
  is_linear = false;
  serial = host_count 2 ∷ percentage 50 ∷ percentage 100 ∷ [];
  pre_tasks = flush_step 3 (task_step repeated no_steps);
  tasks = block_step outer body rescue always (flush_step 11 no_steps);
  post_tasks = asserting;
  handlers = restart ∷ reload ∷ [];
  forces = true;
}

abbrev pub second_play : PlayData
second_play = record {
  line = 17;
  pattern = codes "all" ∷ [];
  gathering = None;
  vars = no_parts;
  is_linear = true;
  serial = [];
  pre_tasks = no_steps;
  tasks = no_steps;
  post_tasks = no_steps;
  handlers = [];
  forces = false;
}

abbrev pub book : Book
book = first_play ∷ second_play ∷ []

-- it is printable, part by part

condition : (n : Name) → condition_in (text n) ≡ Some (read n) → IsCondition writing (read n)
condition n h = record { form = refl; read = h }

value : (n : Name) → value_of (value_text (read n)) ≡ Some (read n) → IsValue writing (read n)
value n h = record { numbers = refl; read = h }

line : (l : ℕ) → nat_lt most_lines l ≡ false → IsLine l l
line l h = record { number = refl; few = h }

no_vars : AreVars writing no_parts
no_vars = record { names = refl; values = tt }

task_does : (w : Work) (l : ℕ) → IsWork builtins writing w → IsTask builtins writing (record (does w) { line = l })
task_does w l h = record { work = h; condition = tt; loop = tt; register = tt; vars = no_vars; notify = refl; changed_when = tt; failed_when = tt; attempts = tt }

repeated_is : IsTask builtins writing repeated
repeated_is = record {
  work = (record { known = refl; free = refl }, (value (codes "order") refl, tt));
  condition = (condition (codes "ready") refl, (condition (codes "willing") refl, tt));
  loop = tt;
  register = refl;
  vars = record { names = refl; values = (value (codes "command_line") refl, tt) };
  notify = refl;
  changed_when = (condition (codes "moved") refl, tt);
  failed_when = (condition (codes "broken") refl, tt);
  attempts = record { until = (condition (codes "done") refl, tt); retries = refl; once = refl; calls = refl };
}

looped_is : IsTask builtins writing looped
looped_is = record {
  work = (value (codes "item") refl, tt);
  condition = tt;
  loop = record { form = refl; value = value (codes "names") refl };
  register = tt;
  vars = no_vars;
  notify = refl;
  changed_when = (record { form = refl; read = refl }, tt);
  failed_when = tt;
  attempts = tt;
}

outer_is : IsBlock writing 0 5 outer body rescue always
outer_is = record {
  condition = (condition (codes "wanted") refl, tt);
  vars = record { names = refl; values = (value (codes "one") refl, tt) };
  line = line 5 refl;
  within = refl;
}

inner_is : IsBlock writing 1 7 inner (task_step (record (does (debug_work no_parts)) { line = 8 }) no_steps) no_steps no_steps
inner_is = record { condition = tt; vars = no_vars; line = line 7 refl; within = refl }

body_is : AreSteps builtins writing 1 6 body
body_is = (
  record { task = task_does (set_fact_work (argument (codes "fact") (codes "found"))) 6 (value (codes "found") refl, tt); line = line 6 refl; within = refl },
  (inner_is, (record { task = task_does (debug_work no_parts) 8 tt; line = line 8 refl; within = refl }, tt), tt, tt, tt),
)

rescue_is : AreSteps builtins writing 1 9 rescue
rescue_is = (record { task = looped_is; line = line 9 refl; within = refl }, tt)

always_is : AreSteps builtins writing 1 10 always
always_is = (record { task = task_does (fail_work (argument (codes "msg") (codes "reason"))) 10 (value (codes "reason") refl, tt); line = line 10 refl; within = refl }, tt)

asserting_is : AreSteps builtins writing 0 12 asserting
asserting_is = (
  record {
    task = task_does (assert_work (conditions_are (lone (codes "sound"))) (argument (codes "fail_msg") (codes "reason"))) 12 ((condition (codes "sound") refl, tt), refl, (value (codes "reason") refl, tt));
    line = line 12 refl;
    within = refl;
  },
  (
    record { task = task_does (assert_work not_given no_parts) 13 (tt, refl, tt); line = line 13 refl; within = refl },
    (record { task = task_does (assert_work not_well_formed no_parts) 14 (tt, refl, tt); line = line 14 refl; within = refl }, tt),
  ),
)

restart_is : IsHandler builtins writing 15 restart
restart_is = record {
  task = task_does (module_work (codes "ping") no_parts) 15 (record { known = refl; free = refl }, tt);
  line = line 15 refl;
  name = refl;
  topics = refl;
  within = refl;
}

reload_is : IsHandler builtins writing 16 reload
reload_is = record {
  task = record { work = (record { known = refl; free = refl }, tt); condition = tt; loop = tt; register = tt; vars = no_vars; notify = refl; changed_when = tt; failed_when = tt; attempts = tt };
  line = line 16 refl;
  name = tt;
  topics = refl;
  within = refl;
}

first_play_is : IsPlay builtins writing 0 1 first_play
unfolding digits
first_play_is = record {
  line = line 1 refl;
  pattern = refl;
  gathering = line 2 refl;
  vars = record { names = refl; values = (value (codes "all_names") refl, tt) };
  serial = refl;
  pre_tasks = (refl, line 3 refl, (record { task = repeated_is; line = line 4 refl; within = refl }, tt));
  tasks = (outer_is, body_is, rescue_is, always_is, (refl, line 11 refl, tt));
  post_tasks = asserting_is;
  handlers = (restart_is, (reload_is, tt));
  few_handlers = refl;
  own_names = refl;
  within = refl;
}

second_play_is : IsPlay builtins writing 1 17 second_play
second_play_is = record {
  line = line 17 refl;
  pattern = refl;
  gathering = tt;
  vars = no_vars;
  serial = refl;
  pre_tasks = tt;
  tasks = tt;
  post_tasks = tt;
  handlers = tt;
  few_handlers = refl;
  own_names = refl;
  within = refl;
}

pub book_is_printable : IsPrintable builtins writing book
book_is_printable = (first_play_is, (second_play_is, tt))

pub book_is_read_back : book_from builtins (printed writing book) ≡ Ok book
unfolding digits
book_is_read_back = refl
