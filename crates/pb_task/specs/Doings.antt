-- What the name of an action or a module stands for, and what is done with what is given to it.
use Rattle.std.specs.Prelude.{◌≡◌, Bool, not, ◌&&◌, cond, Option, Some, None, option_map, codes}
use Rattle.std.specs.Str.{bytes_eq}
use Rattle.pb_semantics.specs.Data.{Data}
use Rattle.pb_semantics.specs.Keeps.{is_among}
use Rattle.pb_semantics.specs.Signature.{ModuleData}
use Rattle.pb_language.specs.Book.{Registry, Work, debug_work, fail_work, module_work}
use Rattle.pb_language.specs.Book.{set_fact_work}
use Rattle.pb_language.specs.Expression.{Name, Parts, no_parts}
use Rattle.pb_language.specs.Keywords.{Standing, is_left_out, keywords_of}
use Rattle.pb_language.specs.TaskForm.{arguments_in, assertion, module_at}
use Rattle.pb_language.specs.Texts.{value_of, with_part}
use Rattle.pb_sig.specs.ModuleView.{known_view}
use Rattle.pb_task.specs.declared.work.Doing as code
use Rattle.pb_task.specs.declared.work.Doing.TheVariants as doings

-- the key is neither a keyword nor left out
abbrev pub is_work : Standing → Name → Bool
is_work s n = not (is_among n (keywords_of s)) && not (is_left_out s n)

pub data Doing : Type 0 where
  flush : Doing
  debug : Doing
  set_fact : Doing
  assert_that : Doing
  fail : Doing
  module_of : ModuleData → Doing

abbrev pub doing_view : code.Doing → Doing
doing_view doings.Flush = flush
doing_view doings.Debug = debug
doing_view doings.SetFact = set_fact
doing_view doings.Assert = assert_that
doing_view doings.Fail = fail
doing_view (doings.Module m) = module_of (known_view m.now.value)

abbrev pub doing_in : Registry → Name → Option Doing
doing_in ms n = cond (bytes_eq n (codes "debug")) (Some debug)
    (cond (bytes_eq n (codes "set_fact")) (Some set_fact)
    (cond (bytes_eq n (codes "fail")) (Some fail)
    (cond (bytes_eq n (codes "assert")) (Some assert_that)
    (cond (bytes_eq n (codes "meta")) (Some flush) (option_map module_of (module_at n ms))))))

-- a module is the registry's of its name
abbrev pub IsFound : Registry → Doing → Type 0
IsFound ms (module_of m) = module_at m.name ms ≡ Some m
IsFound ms w = Unit {0}

-- a value as the one argument of a free form, if there is one
abbrev pub whole_argument : Option Name → Data → Option Parts
whole_argument None d = Some no_parts
whole_argument (Some n) d = with_part n (value_of d) (Some no_parts)

-- the work; none of a flush
abbrev pub work_doing : Doing → Data → Option (Option Work)
work_doing flush d = Some None
work_doing debug d = option_map (λ w. Some w) (option_map debug_work (arguments_in None d))
work_doing set_fact d = option_map (λ w. Some w) (option_map set_fact_work (arguments_in None d))
work_doing fail d = option_map (λ w. Some w) (option_map fail_work (arguments_in None d))
work_doing assert_that d = option_map (λ w. Some w) (assertion d)
work_doing (module_of m) d =
    option_map (λ w. Some w) (option_map (module_work m.name) (arguments_in m.free d))
