-- What calls stand for.
use Rattle.std.specs.Prelude.{ℕ, List, [], string_bytes}
use Rattle.pb_language.specs.Expression.{Name}
use Rattle.pb_language.specs.Start.{Entry}
use Rattle.pb_history.specs.Jobs.{CallData, entry_calls}
use Rattle.pb_value.specs.View.{view}
use Rattle.pb_jobs.specs.declared.job.Call.{Call}

abbrev pub call_data : Call → CallData
call_data c = record {
  host = c.host;
  name = string_bytes c.name.value;
  number = c.number;
  asked = string_bytes c.module.value;
  arguments = view c.args;
}

-- the call of one pass, where it makes one
abbrev pub own_calls : ℕ → Name → Name → Entry → ℕ → List CallData
own_calls k host m e n = entry_calls k host m e (λ i. []) n
