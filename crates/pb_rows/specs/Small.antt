-- Small books, inventories and answers of which rows are made.
use Rattle.std.specs.Prelude.{ℕ, zero, suc, pos, [], ◌∷◌, true, false, Some, None, codes}
use Rattle.pb_semantics.specs.Data.{Items, boolean, int, text, list, rec, no_items, item}
use Rattle.pb_semantics.specs.Data.{no_fields, field}
use Rattle.pb_language.specs.Book.{Work, module_work, TaskData, HandlerData, Steps, no_steps}
use Rattle.pb_language.specs.Book.{PlayData}
use Rattle.pb_language.specs.Expression.{Name, equal, literal, path, comparison, variable}
use Rattle.pb_language.specs.Expression.{no_expressions, expression, no_parts, part}
use Rattle.pb_language.specs.Give.{Answer, object}
use Rattle.pb_language.specs.Program.{Inventory}

abbrev pub task_of : ℕ → Work → TaskData
task_of l w = record {
  line = l;
  work = w;
  condition = no_expressions;
  loop = None;
  register = None;
  vars = no_parts;
  notify = [];
  changed_when = None;
  failed_when = None;
  attempts = None;
  ignore_errors = None;
}

abbrev pub ping : ℕ → TaskData
ping l = task_of l (module_work (codes "ping") no_parts)

abbrev pub command : ℕ → TaskData
command l = task_of l
    (module_work (codes "command") (part (codes "cmd") (literal (text (codes "x"))) no_parts))

-- its command is made once more where its status isn't zero
abbrev pub asking : ℕ → TaskData
asking l = record (command l) {
  register = Some (codes "out");
  attempts = Some (record {
    until = expression (comparison equal (path (variable (codes "out")) (codes "rc" ∷ []))
        (literal (int (pos 0)))) no_expressions;
    retries = 1;
  });
}

abbrev pub handler_of : Name → TaskData → HandlerData
handler_of n t = record { work = t; name = Some n; topics = [] }

abbrev pub play : Steps → PlayData
play ss = record {
  line = 1;
  pattern = codes "all" ∷ [];
  gathering = None;
  vars = no_parts;
  is_linear = true;
  serial = [];
  pre_tasks = no_steps;
  tasks = ss;
  post_tasks = no_steps;
  handlers = [];
  forces = false;
}

abbrev pub one_host : Inventory
one_host = record {
  hosts = record { name = codes "h1"; variables = no_fields } ∷ [];
  groups = record { name = codes "all"; hosts = codes "h1" ∷ [] } ∷ [];
}

abbrev pub two_hosts : Inventory
two_hosts = record {
  hosts =
      record { name = codes "db1"; variables = no_fields }
      ∷ record { name = codes "web1"; variables = no_fields } ∷ [];
  groups = record { name = codes "all"; hosts = codes "db1" ∷ codes "web1" ∷ [] } ∷ [];
}

abbrev pub lines : ℕ → Items
lines zero = no_items
lines (suc n) = item (text (codes "a")) (lines n)

-- of a command that went well, with so many lines
abbrev pub well_with : ℕ → Answer
well_with n = object (rec (field (codes "changed") (boolean true)
    (field (codes "rc") (int (pos 0))
    (field (codes "stderr") (text [])
    (field (codes "stderr_lines") (list no_items)
    (field (codes "stdout") (text (codes "a"))
    (field (codes "stdout_lines") (list (lines n)) no_fields)))))))

abbrev pub well : Answer
well = well_with 1

-- of one that didn't
abbrev pub badly : Answer
badly = object (rec (field (codes "changed") (boolean false)
    (field (codes "failed") (boolean true)
    (field (codes "msg") (text (codes "no"))
    (field (codes "rc") (int (pos 1))
    (field (codes "stderr") (text [])
    (field (codes "stderr_lines") (list no_items)
    (field (codes "stdout") (text [])
    (field (codes "stdout_lines") (list no_items) no_fields)))))))))

abbrev pub pinged : Answer
pinged = object (rec (field (codes "ping") (text (codes "pong")) no_fields))
