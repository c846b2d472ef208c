-- What the program prints.
use Rattle.std.specs.Prelude.{ℕ, List, [], ◌∷◌, ◌++◌, map, Bool, nat_lt, if◌then◌else◌, codes}
use Rattle.std.specs.Prelude.{Option, Some, None, Result, Ok, Err, String, string_bytes}
use Rattle.std.specs.List.{flat_map, list_any, zip}
use Rattle.std.specs.declared.alloc.Global.{Global}
use Rattle.std.specs.Fmt.{decimal}
use Rattle.pb_language.specs.Machine.{Recap}
use Rattle.pb_inventory.specs.Inventory.{inventory_view}
use Rattle.pb_verify.specs.declared.checked.Accepted.{Accepted}
use Rattle.pb_verify.specs.declared.refusal.Refusal.{Refusal}
use Rattle.pb_verify.specs.Codes.{code_text}
use Rattle.pb_run.specs.Recorded.{recaps_in}
use Rattle.pb_executor.specs.States.{RunState, state_of}
use Rattle.pb_cli.specs.declared.judge.Fault.{Fault}
use Rattle.pb_cli.specs.declared.judge.Fault.TheVariants.{Refused, NoMemory}
use Rattle.pb_cli.specs.declared.want.Want.{Want}
use Rattle.pb_cli.specs.declared.want.Want.TheVariants.{Memory, Thread}

-- the host's name, or `-` where there is none
abbrev pub host_text : Option (String Global) → List ℕ
host_text None = codes "-"
host_text (Some name) = string_bytes name

abbrev pub refusal_line : Refusal → List ℕ
refusal_line r = codes "refused "
    ++ (code_text r.code ++ (codes " line "
    ++ (decimal r.line ++ (codes " host " ++ (host_text r.host ++ (10 ∷ []))))))

-- the line of a verdict, with its line feed
abbrev pub verdict_line : Result Accepted Fault → List ℕ
verdict_line (Ok a) = codes "accepted budget " ++ (decimal a.budget ++ (10 ∷ []))
verdict_line (Err (Refused r)) = refusal_line r
verdict_line (Err NoMemory) = []

abbrev pub reached_text : Recap → List ℕ
reached_text r = codes "ok="
    ++ (decimal r.ok ++ (codes " changed="
    ++ (decimal r.changed ++ (codes " unreachable=" ++ decimal r.unreachable))))

abbrev pub ended_text : Recap → List ℕ
ended_text r =
    codes "failed=" ++ (decimal r.failed
    ++ (codes " skipped=" ++ (decimal r.skipped
    ++ (codes " rescued=" ++ (decimal r.rescued ++ (codes " ignored=" ++ decimal r.ignored))))))

-- the line of one host's recap, with its line feed
abbrev pub recap_line : List ℕ → Recap → List ℕ
recap_line name r =
    name ++ (codes " : " ++ (reached_text r ++ (codes " " ++ (ended_text r ++ (10 ∷ [])))))

-- the names of a run's hosts, in host order
abbrev pub host_names : RunState → List (List ℕ)
host_names r = map (λ h. h.name) (inventory_view r.accepted.inventory).hosts

-- what their tasks came to
abbrev pub recaps_of : RunState → List Recap
recaps_of r = recaps_in (state_of r)

-- a line for each of these hosts, with its recap
abbrev pub recap_lines : List (List ℕ) → List Recap → List ℕ
recap_lines names rs = flat_map (λ p. recap_line p.0 p.1) (zip names rs)

-- the recap of a run: a line for each host, in host order
abbrev pub run_lines : RunState → List ℕ
run_lines r = recap_lines (host_names r) (recaps_of r)

-- some host's task failed
abbrev pub some_failed : List Recap → Bool
some_failed rs = list_any (λ r. nat_lt 0 r.failed) rs

-- some host couldn't be reached
abbrev pub some_unreachable : List Recap → Bool
some_unreachable rs = list_any (λ r. nat_lt 0 r.unreachable) rs

abbrev pub status_for : List Recap → ℕ
status_for rs = if some_failed rs then 2 else if some_unreachable rs then 4 else 0

-- what wasn't there
abbrev pub want_line : Want → List ℕ
want_line Memory = codes "playcheck: want of memory" ++ (10 ∷ [])
want_line Thread = codes "playcheck: no thread" ++ (10 ∷ [])
