-- Verdicts, and the one on the ways of all hosts (this project's own).
use Rattle.std.specs.Prelude.{ℕ, List, [], ◌∷◌, Bool, true, false, ◌&&◌, ◌||◌, nat_lt, nat_eq, cond}
use Rattle.std.specs.Prelude.{Option, Some, None, option_map}
use Rattle.pb_language.specs.Expression.{Name}
use Rattle.pb_language.specs.Fit.{Fault, perhaps_undefined, perhaps_undefined_there}
use Rattle.pb_language.specs.Fit.{perhaps_missing, wrong_kind, unknown_name, unknown_handler}
use Rattle.pb_language.specs.Fit.{malformed}
use Rattle.pb_language.specs.Scope.{View, Since, Later, later_of}
use Rattle.pb_language.specs.Judgement.{Exit, dead, live, task_fault}
use Rattle.pb_language.specs.Walk.{Visit}
use Rattle.pb_language.specs.Program.{Inventory, Program}
use Rattle.pb_semantics.specs.Keeps.{is_among}
use Rattle.pb_language.specs.Tables.{PlayWalk, HostWalk, first_laters, other_laters, all_walked}
use Rattle.pb_language.specs.Tables.{known_views, views_after, are_settled, laters_of, has_since}
use Rattle.pb_language.specs.Tables.{has_all, budget_of}

-- the number of the V code, the line, and the host where one is named
pub record Refusal : Type 0 where
  pub code : ℕ
  pub line : ℕ
  pub host : Option Name

-- the budget of module calls, or the first offence
pub data Verdict : Type 0 where
  accepted : ℕ → Verdict
  refused : Refusal → Verdict

abbrev pub code_of : Fault → ℕ
code_of perhaps_undefined = 1
code_of perhaps_undefined_there = 2
code_of perhaps_missing = 3
code_of wrong_kind = 4
code_of unknown_handler = 5
code_of unknown_name = 6
code_of malformed = 7

-- on one host: the lesser line, and on one line the lesser code
abbrev pub is_lesser : Refusal → Refusal → Bool
is_lesser q r = nat_lt q.line r.line || (nat_eq q.line r.line && nat_lt q.code r.code)

abbrev pub lesser : Option Refusal → Option Refusal → Option Refusal
lesser None r = r
lesser (Some q) None = Some q
lesser (Some q) (Some r) = cond (is_lesser r q) (Some r) (Some q)

-- of two hosts: the lesser line, and on one line the earlier host
abbrev pub earlier : Option Refusal → Option Refusal → Option Refusal
earlier None r = r
earlier (Some q) None = Some q
earlier (Some q) (Some r) = cond (nat_lt r.line q.line) (Some r) (Some q)

abbrev pub visit_offence : Name → Visit → Option Refusal
visit_offence h v = option_map
    (λ f. record { code = code_of f; line = v.visited.line; host = Some h })
    (task_fault v.setting v.visited v.env)

abbrev pub visits_offence : Name → List Visit → Option Refusal
visits_offence h [] = None
visits_offence h (v ∷ vs) = lesser (visit_offence h v) (visits_offence h vs)

abbrev pub plays_offence : Name → List PlayWalk → Option Refusal
plays_offence h [] = None
plays_offence h (w ∷ ws) = lesser (visits_offence h w.walked.visits) (plays_offence h ws)

-- the first offence of all hosts in host order
abbrev pub first_offence : List HostWalk → Option Refusal
first_offence [] = None
first_offence (w ∷ ws) = earlier (plays_offence w.host w.plays) (first_offence ws)

abbrev pub exit_has : Since → Exit → Bool
exit_has l dead = true
exit_has l (live env) = has_all l env

abbrev pub visits_have : Since → List Visit → Bool
visits_have l [] = true
visits_have l (v ∷ vs) = has_since v.visited.place l v.env && visits_have l vs

-- each environment of the host has what `laters` says that it has at its place, and at the play's
-- end
abbrev pub play_has : Name → List Later → PlayWalk → Bool
play_has h ls w =
    visits_have (later_of h ls) w.walked.visits && exit_has (later_of h ls) w.walked.well

abbrev pub plays_have : Name → Program → List (List Later) → List PlayWalk → Bool
plays_have h ps ls [] = true
plays_have h [] ls (w ∷ ws) = true
plays_have h (p ∷ ps) ls (w ∷ ws) = cond (is_among h p.hosts)
    (play_has h (first_laters ls) w && plays_have h ps (other_laters ls) ws)
    (plays_have h ps (other_laters ls) (w ∷ ws))

abbrev pub all_have : Program → List (List Later) → List HostWalk → Bool
all_have ps ls [] = true
all_have ps ls (w ∷ ws) = plays_have w.host ps ls w.plays && all_have ps ls ws

-- kinds that four rounds don't settle are refused at no line
abbrev pub unsettled : Refusal
unsettled = record { code = 11; line = 0; host = None }

abbrev pub settled_verdict : Bool → ℕ → Verdict
settled_verdict true n = accepted n
settled_verdict false n = refused unsettled

abbrev pub offence_verdict : Option Refusal → Verdict → Verdict
offence_verdict None v = v
offence_verdict (Some r) v = refused r

abbrev pub walked_verdict : List View → List HostWalk → Verdict
walked_verdict views ws =
    offence_verdict (first_offence ws) (settled_verdict (are_settled ws views) (budget_of ws))

abbrev pub table_verdict : Inventory → Program → List View → List (List Later) → Verdict
table_verdict inventory ps views ls = walked_verdict views (all_walked inventory ps views ls)

abbrev pub laters_verdict : Inventory → Program → List (List Later) → Verdict
laters_verdict inventory ps ls = table_verdict inventory ps (views_after 4 inventory ps ls) ls

-- what a first walk, with the inventory's kinds, says of later places; no kind plays a part in it
abbrev pub found_laters : Program → Inventory → List (List Later)
found_laters ps inventory = laters_of ps (all_walked inventory ps (known_views inventory.hosts) [])

-- the verdict on the ways of all hosts, with the fourth table
abbrev pub flow_verdict : Program → Inventory → Verdict
flow_verdict ps inventory = laters_verdict inventory ps (found_laters ps inventory)
