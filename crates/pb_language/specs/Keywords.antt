-- The keywords of plays, blocks, tasks and handlers, and the words that are left out (Ansible's
-- page on playbook keywords, and this project's own choice among them).
use Rattle.std.specs.Prelude.{List, [], ◌∷◌, ◌++◌, Bool, ◌||◌, ◌==◌, codes}
use Rattle.std.specs.List.{starts_with}
use Rattle.pb_semantics.specs.Keeps.{is_among}
use Rattle.pb_language.specs.Expression.{Name}

abbrev pub section_keywords : List Name
section_keywords = codes "pre_tasks" ∷ codes "tasks" ∷ codes "post_tasks" ∷ []

abbrev pub play_keywords : List Name
play_keywords = codes "hosts" ∷ codes "name" ∷ codes "gather_facts" ∷ codes "vars"
    ∷ codes "strategy" ∷ codes "serial" ∷ codes "handlers" ∷ codes "force_handlers"
    ∷ section_keywords

-- the parts of a block in the order in which they run
abbrev pub part_keywords : List Name
part_keywords = codes "block" ∷ codes "rescue" ∷ codes "always" ∷ []

abbrev pub block_keywords : List Name
block_keywords =
    codes "name" ∷ codes "when" ∷ codes "vars" ∷ codes "ignore_errors" ∷ part_keywords

abbrev pub task_keywords : List Name
task_keywords = codes "name" ∷ codes "when" ∷ codes "loop" ∷ codes "register" ∷ codes "vars"
    ∷ codes "notify" ∷ codes "changed_when" ∷ codes "failed_when" ∷ codes "ignore_errors"
    ∷ codes "until" ∷ codes "retries" ∷ []

-- of a task, with conditions
abbrev pub condition_keywords : List Name
condition_keywords =
    codes "when" ∷ codes "changed_when" ∷ codes "failed_when" ∷ codes "until" ∷ []

-- with the names of handlers or of their topics
abbrev pub topic_keywords : List Name
topic_keywords = codes "notify" ∷ codes "listen" ∷ []

-- where a task stands: at the top of a section, in a part of a block, or among the handlers
pub data Standing : Type 0 where
  at_top : Standing
  in_block : Standing
  as_handler : Standing

abbrev pub keywords_of : Standing → List Name
keywords_of as_handler = codes "listen" ∷ task_keywords
keywords_of s = task_keywords

abbrev pub left_out_words : List Name
left_out_words = codes "action" ∷ codes "any_errors_fatal" ∷ codes "args" ∷ codes "async"
    ∷ codes "become" ∷ codes "become_exe" ∷ codes "become_flags" ∷ codes "become_method"
    ∷ codes "become_user" ∷ codes "check_mode" ∷ codes "collections" ∷ codes "connection"
    ∷ codes "debugger" ∷ codes "delay" ∷ codes "delegate_facts" ∷ codes "delegate_to"
    ∷ codes "diff" ∷ codes "environment" ∷ codes "ignore_unreachable" ∷ codes "local_action"
    ∷ codes "loop_control" ∷ codes "module_defaults" ∷ codes "no_log" ∷ codes "poll"
    ∷ codes "port" ∷ codes "remote_user" ∷ codes "run_once" ∷ codes "tags" ∷ codes "throttle"
    ∷ codes "timeout" ∷ []

-- keywords of other rows
abbrev pub misplaced_words : Standing → List Name
misplaced_words as_handler = part_keywords
misplaced_words s = codes "rescue" ∷ codes "always" ∷ codes "listen" ∷ []

abbrev pub is_left_out : Standing → Name → Bool
is_left_out s n = is_among n (left_out_words ++ misplaced_words s)
    || starts_with (λ a b. a == b) n (codes "with_")
