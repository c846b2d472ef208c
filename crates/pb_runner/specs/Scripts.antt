-- Files of answers: an object from host names to lists of objects.
use Rattle.std.specs.Prelude.{◌≡◌, ◌⊎◌, ℕ, zero, suc, List, Bool, true, false, ◌&&◌, cond}
use Rattle.std.specs.Prelude.{if◌then◌else◌, Option, Some, None, Result, Ok, Err, codes}
use Rattle.std.specs.Prelude.{string_bytes}
use Rattle.pb_semantics.specs.Data.{Data, list, rec, Items, no_items, item, Fields, no_fields}
use Rattle.pb_semantics.specs.Data.{field, field_value}
use Rattle.pb_semantics.specs.Keeps.{flag_is}
use Rattle.pb_language.specs.Expression.{Name}
use Rattle.pb_language.specs.Give as language
use Rattle.pb_value.specs.FromJson.{json_data}
use Rattle.pb_value.specs.View.{fields_view}
use Rattle.pb_finish.specs.Answers.{answer_data}
use Rattle.pb_finish.specs.declared.answer.Answer.{Answer}
use Rattle.pb_finish.specs.declared.answer.Answer.TheVariants.{Unreachable, Broken}
use Rattle.pb_finish.specs.declared.answer.Why.TheVariants.{NoAnswer}
use Rattle.pb_jobs.specs.declared.job.Call.{Call}
use Rattle.pb_runner.specs.declared.script.ScriptFault.{ScriptFault}
use Rattle.pb_runner.specs.declared.script.ScriptFault.TheVariants.{NotJson, Shape, NoMemory}
use Rattle.pb_runner.specs.declared.script.ScriptRunner.{ScriptRunner}

abbrev pub is_object : Data → Bool
is_object (rec fs) = true
is_object d = false

abbrev pub are_objects : Items → Bool
are_objects no_items = true
are_objects (item d ds) = is_object d && are_objects ds

abbrev pub is_list_of_objects : Data → Bool
is_list_of_objects (list ds) = are_objects ds
is_list_of_objects d = false

abbrev pub are_lists_of_objects : Fields → Bool
are_lists_of_objects no_fields = true
are_lists_of_objects (field n d fs) = is_list_of_objects d && are_lists_of_objects fs

-- the answers in a text's value, or why there are none
abbrev pub script_of : Option Data → Result Fields ScriptFault
script_of None = Err NotJson
script_of (Some (rec fs)) = if are_lists_of_objects fs then Ok fs else Err Shape
script_of (Some d) = Err Shape

-- a text of at most so many bytes
abbrev pub script_in : List ℕ → Result Fields ScriptFault
script_in bs = script_of (json_data bs)

-- what is found in a text where a fault is given, none for want of memory
abbrev pub script_fault : ScriptFault → Option (Result Fields ScriptFault)
script_fault NoMemory = None
script_fault f = Some (Err f)

-- an entry of a list, counted from 0
abbrev pub item_at : ℕ → Items → Option Data
item_at n no_items = None
item_at zero (item d ds) = Some d
item_at (suc n) (item d ds) = item_at n ds

abbrev pub entry_of : ℕ → Option Data → Option Data
entry_of n (Some (list ds)) = item_at n ds
entry_of n d = None

-- an object with `unreachable` true says that the host can't be reached
abbrev pub says_unreachable : Data → Bool
says_unreachable (rec fs) = flag_is true (field_value (codes "unreachable") fs)
says_unreachable d = false

abbrev pub entry_answer : Option Data → language.Answer
entry_answer None = language.broken
entry_answer (Some d) = cond (says_unreachable d) language.unreachable (language.object d)

-- the call of that number on a host is answered by that entry of the host's list
abbrev pub scripted : Fields → Name → ℕ → language.Answer
scripted fs host n = entry_answer (entry_of n (field_value host fs))

-- the answers that a runner has, by the hosts' names
abbrev pub answers_in : ScriptRunner → Fields
answers_in r = fields_view r.answers.value.parts.entries

-- it is that answer; where there is none, it says so
abbrev pub Answers : Answer → language.Answer → Type 0
Answers a (language.object d) = answer_data a ≡ language.object d
Answers a language.unreachable = a ≡ Unreachable
Answers a language.broken = a ≡ Broken NoAnswer

abbrev pub IsObject : language.Answer → Type 0
IsObject (language.object d) = Unit {0}
IsObject x = ⊥

-- the file's answer to the call, whoever gives it
abbrev pub IsFromFile : {R : Type 0} → Fields → R → Call → Answer → R → Type 0
IsFromFile fs r c a s = Answers a (scripted fs (string_bytes c.name.value) c.number)

-- there was no memory to give the file's object out: no answer is given, and the runner is short
-- from there on
abbrev pub IsWithheld : language.Answer → Answer → ScriptRunner → Type 0
IsWithheld (language.object d) a s = (a ≡ Broken NoAnswer) × (s.is_short ≡ true)
IsWithheld x a s = ⊥

-- asked the call, the runner gives its file's answer; or an object for want of memory not, and
-- stays short once it is
pub record IsScripted (r : ScriptRunner) (c : Call) (a : Answer) (s : ScriptRunner) : Type 0 where
  pub answer : IsFromFile (answers_in r) r c a s
      ⊎ IsWithheld (scripted (answers_in r) (string_bytes c.name.value) c.number) a s
  pub short : r.is_short ≡ true → s.is_short ≡ true
  pub answers : answers_in s ≡ answers_in r
