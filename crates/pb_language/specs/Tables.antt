-- What the walks of all hosts give: each host's variables as others see them, what a host has at
-- its later places, and how long loops are (this project's own).
use Rattle.std.specs.Prelude.{ℕ, zero, suc, ◌+◌, ◌*◌, max, List, [], ◌∷◌, Bool, true, false, not}
use Rattle.std.specs.Prelude.{◌&&◌, ◌||◌, nat_le, nat_eq, cond, Option, Some, None}
use Rattle.pb_semantics.specs.Kind.{KindData, Slots, Spot, no_slots, slot, nowhere, spot, slot_at}
use Rattle.pb_semantics.specs.Join.{join}
use Rattle.pb_semantics.specs.Below.{below}
use Rattle.pb_semantics.specs.Keeps.{is_among}
use Rattle.pb_language.specs.Expression.{Name, Expression}
use Rattle.pb_language.specs.World.{HostVariables}
use Rattle.pb_language.specs.Scope.{spot_kind, is_certain, with_spot, Since, no_since, since}
use Rattle.pb_language.specs.Scope.{every_name, View, view_of, Later}
use Rattle.pb_language.specs.Kinds.{known_slots}
use Rattle.pb_language.specs.Task.{Action, call_of, debug, set_fact, assertion, failure_of, Task}
use Rattle.pb_language.specs.Task.{Handlers, no_handlers, handler, Row, end, task, flush, section}
use Rattle.pb_language.specs.Task.{block}
use Rattle.pb_language.specs.Cases.{Sets, no_sets, sets}
use Rattle.pb_language.specs.Give.{retries_of}
use Rattle.pb_language.specs.Judgement.{Exit, dead, live, task_writes, loop_length}
use Rattle.pb_language.specs.Walk.{Visit, Walked, walk}
use Rattle.pb_language.specs.Program.{Inventory, Play, Program, setting_of}

-- a host's way through a play
pub record PlayWalk : Type 0 where
  pub play : Play
  pub walked : Walked

abbrev pub first_laters : List (List Later) → List Later
first_laters [] = []
first_laters (l ∷ ls) = l

abbrev pub other_laters : List (List Later) → List (List Later)
other_laters [] = []
other_laters (l ∷ ls) = ls

abbrev pub then_plays : Play → Walked → (Exit → List PlayWalk) → List PlayWalk
then_plays p w go = record { play = p; walked = w } ∷ go w.well

-- a host's way through the plays that name it, from where the one before it ends; there is an entry
-- of `laters` for each play
abbrev pub plays_walked : Inventory → List View → Name → Exit → Program → List (List Later)
    → List PlayWalk
plays_walked inventory views h e [] ls = []
plays_walked inventory views h e (p ∷ ps) ls =
    cond (is_among h p.hosts)
    (then_plays p (walk (setting_of inventory p views (first_laters ls) h) p.row e)
    (λ x. plays_walked inventory views h x ps (other_laters ls)))
    (plays_walked inventory views h e ps (other_laters ls))

pub record HostWalk : Type 0 where
  pub host : Name
  pub plays : List PlayWalk

abbrev pub hosts_walked : Inventory → List View → Program → List (List Later) → List HostVariables
    → List HostWalk
hosts_walked inventory views ps ls [] = []
hosts_walked inventory views ps ls
    (x ∷ xs) = record {
      host = x.name;
      plays = plays_walked inventory views x.name
          (live (known_slots x.variables)) ps ls;
    } ∷ hosts_walked inventory views ps ls xs

abbrev pub all_walked : Inventory → Program → List View → List (List Later) → List HostWalk
all_walked inventory ps views ls = hosts_walked inventory views ps ls inventory.hosts

-- a write is joined to what is known; what isn't the inventory's is only perhaps there
abbrev pub written_spot : Spot → KindData → Spot
written_spot nowhere k = spot false k
written_spot (spot a j) k = spot a (join j k)

abbrev pub with_writes : Sets → Slots → Slots
with_writes no_sets ss = ss
with_writes (sets n a k r) ss = with_writes r (with_spot n (written_spot (slot_at n ss) k) ss)

abbrev pub with_visits : List Visit → Slots → Slots
with_visits [] ss = ss
with_visits (v ∷ vs) ss = with_visits vs (with_writes (task_writes v.setting v.visited v.env) ss)

abbrev pub with_plays : List PlayWalk → Slots → Slots
with_plays [] ss = ss
with_plays (w ∷ ws) ss = with_plays ws (with_visits w.walked.visits ss)

-- a view with all writes of the host's way
abbrev pub next_views : List HostWalk → List View → List View
next_views [] vs = []
next_views (w ∷ ws) vs =
    record { host = w.host; slots = with_plays w.plays (view_of w.host vs) } ∷ next_views ws vs

abbrev pub known_views : List HostVariables → List View
known_views [] = []
known_views (x ∷ xs) = record { host = x.name; slots = known_slots x.variables } ∷ known_views xs

abbrev pub next_round : Inventory → Program → List (List Later) → List View → List View
next_round inventory ps ls views = next_views (all_walked inventory ps views ls) views

-- the table of the inventory, and after so many rounds
abbrev pub views_after : ℕ → Inventory → Program → List (List Later) → List View
views_after zero inventory ps ls = known_views inventory.hosts
views_after (suc n) inventory ps ls = next_round inventory ps ls (views_after n inventory ps ls)

-- whether each write is below what the view says
abbrev pub writes_below : Sets → Slots → Bool
writes_below no_sets ss = true
writes_below (sets n a k r) ss = below k (spot_kind (slot_at n ss)) && writes_below r ss

abbrev pub visits_below : List Visit → Slots → Bool
visits_below [] ss = true
visits_below (v ∷ vs) ss =
    writes_below (task_writes v.setting v.visited v.env) ss && visits_below vs ss

abbrev pub plays_below : List PlayWalk → Slots → Bool
plays_below [] ss = true
plays_below (w ∷ ws) ss = visits_below w.walked.visits ss && plays_below ws ss

-- the kinds are settled: each write is below the view
abbrev pub are_settled : List HostWalk → List View → Bool
are_settled [] vs = true
are_settled (w ∷ ws) vs = plays_below w.plays (view_of w.host vs) && are_settled ws vs

-- the first place from which on the name is certain in each environment
abbrev pub certain_from : Name → List Visit → ℕ
certain_from n [] = 0
certain_from n (v ∷ vs) = cond (is_certain (slot_at n v.env)) (certain_from n vs)
    (max (suc v.visited.place) (certain_from n vs))

abbrev pub past_places : List Visit → ℕ
past_places [] = 0
past_places (v ∷ vs) = max (suc v.visited.place) (past_places vs)

-- the environment of the latest place
abbrev pub latest_env : ℕ → Slots → List Visit → Slots
latest_env p ss [] = ss
latest_env p ss (v ∷ vs) =
    cond (nat_le p v.visited.place) (latest_env v.visited.place v.env vs) (latest_env p ss vs)

abbrev pub names_since : List Visit → Slots → Since → Since
names_since vs no_slots l = l
names_since vs (slot n true k ss) l = since n (certain_from n vs) (names_since vs ss l)
names_since vs (slot n false k ss) l = names_since vs ss l

-- the names that are certain in each environment of the place or a later one, and at the play's
-- end; where there is no such environment it is every name
abbrev pub since_of : List Visit → Exit → Since
since_of vs (live env) = names_since vs env no_since
since_of vs dead = names_since vs (latest_env 0 no_slots vs) (every_name (past_places vs) no_since)

-- of a host's ways through the plays, the one through the first play where that names the host
abbrev pub since_first : List PlayWalk → Since
since_first [] = every_name 0 no_since
since_first (w ∷ ws) = since_of w.walked.visits w.walked.well

abbrev pub after_first : Bool → List PlayWalk → List PlayWalk
after_first false ws = ws
after_first true [] = []
after_first true (w ∷ ws) = ws

abbrev pub play_laters : Play → List HostWalk → List Later
play_laters p [] = []
play_laters p (w ∷ ws) = record {
  host = w.host;
  names = cond (is_among w.host p.hosts)
      (since_first w.plays) (every_name 0 no_since);
} ∷ play_laters p ws

abbrev pub walks_after : Play → List HostWalk → List HostWalk
walks_after p [] = []
walks_after p (w ∷ ws) = record {
  host = w.host;
  plays = after_first (is_among w.host p.hosts)
      w.plays;
} ∷ walks_after p ws

-- for each play what each host has at its later places; nothing under `free`
abbrev pub laters_of : Program → List HostWalk → List (List Later)
laters_of [] ws = []
laters_of (p ∷ ps) ws = cond p.is_linear (play_laters p ws) [] ∷ laters_of ps (walks_after p ws)

-- an environment has what it should have at this place
abbrev pub has_since : ℕ → Since → Slots → Bool
has_since p no_since env = true
has_since p (since n q l) env =
    (not (nat_le q p) || is_certain (slot_at n env)) && has_since p l env
has_since p (every_name q l) env = not (nat_le q p) && has_since p l env

-- and at the play's end
abbrev pub has_all : Since → Slots → Bool
has_all no_since env = true
has_all (since n q l) env = is_certain (slot_at n env) && has_all l env
has_all (every_name q l) env = false

-- the greatest number of items of the place's loop over the environments that reach it
abbrev pub greatest_length : ℕ → Expression → List Visit → ℕ
greatest_length p e [] = 0
greatest_length p e (v ∷ vs) = cond (nat_eq p v.visited.place)
    (max (loop_length v.setting v.visited v.env (Some e)) (greatest_length p e vs))
    (greatest_length p e vs)

abbrev pub place_length : Task → Option Expression → List Visit → ℕ
place_length t None vs = 1
place_length t (Some e) vs = greatest_length t.place e vs

-- the calls that a place may hand out: those of an attempt, as often as there may be attempts
abbrev pub place_calls : List Visit → Task → Action → ℕ
place_calls vs t (call_of m ps) = suc (retries_of t.attempts) * place_length t t.loop vs
place_calls vs t (debug e) = 0
place_calls vs t (set_fact ps) = 0
place_calls vs t (assertion es o) = 0
place_calls vs t (failure_of o) = 0

abbrev pub flush_calls : List Visit → Handlers → ℕ
flush_calls vs no_handlers = 0
flush_calls vs (handler n t hs) = place_calls vs t t.action + flush_calls vs hs

-- an `always` and a forced flush have one set of places for both their modes
abbrev pub row_calls : List Visit → Row → ℕ
row_calls vs end = 0
row_calls vs (task t row) = place_calls vs t t.action + row_calls vs row
row_calls vs (flush hs row) = flush_calls vs hs + row_calls vs row
row_calls vs (section body hs row) =
    row_calls vs body + (flush_calls vs hs + row_calls vs row)
row_calls vs (block d body saves rescued always row) =
    row_calls vs body + (row_calls vs rescued + (row_calls vs always + row_calls vs row))

abbrev pub plays_calls : List PlayWalk → ℕ
plays_calls [] = 0
plays_calls (w ∷ ws) = row_calls w.walked.visits w.play.row + plays_calls ws

-- the sum over each host, each play that names it and each place
abbrev pub budget_of : List HostWalk → ℕ
budget_of [] = 0
budget_of (w ∷ ws) = plays_calls w.plays + budget_of ws
