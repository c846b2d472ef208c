-- The visits at the nodes of a play, as a way that agrees with the walk of its row.
use Rattle.std.proofs.Common.{◌≡◌, ℕ, suc, ◌+◌, ◌<◌, ◌≤◌, List, [], ◌∷◌, ◌++◌, length, map, slice_index_or, refl, sym, ap, subst, ◌∙◌, arith}
use Rattle.std.proofs.lemmas.List.{get_or_default, length-map}
use Rattle.pb_language.specs.Book.{PlayData, Registry}
use Rattle.pb_language.specs.Judgement.{Exit}
use Rattle.pb_language.specs.Plays.{play_row}
use Rattle.pb_language.specs.Setting.{Setting}
use Rattle.pb_language.specs.Tables.{row_calls}
use Rattle.pb_language.specs.Task.{Row, Task}
use Rattle.pb_language.specs.Walk.{visits_at, walk}
use Rattle.pb_language.specs.Wells.{WellExit}
use Rattle.pb_lattice.specs.Environments.{exit_of}
use Rattle.pb_lattice.specs.Shared.{Shared}
use Rattle.pb_lattice.specs.declared.environment.Environment.{Environment}
use Rattle.pb_flow.specs.Flow.{end_node, tasks_of}
use Rattle.pb_flow.proofs.Sizes.{row-tasks}
use Rattle.pb_route.specs.Station.{station_task}
use Rattle.pb_walks.specs.Agree.{AllVisitsAgree, ExitsAgree}
use Rattle.pb_route.specs.Places.{PlacesAreCounted, places_calls}
use Rattle.pb_route.specs.Routes.{ArePathsOf, Paths}
use Rattle.pb_route.specs.Visited.{nodes_visits}
use Rattle.pb_way.specs.Walks.{IsWalk}
use Rattle.pb_find.specs.Ways.{nothing_known, value_at, way_visits}
use Rattle.pb_tables.specs.Played.{IsWay}

-- the visits of nodes at which the same is known
same_nodes : (st : Setting) (ts : List Task) (v w : ℕ → Exit) (n m : ℕ) → n + length ts ≤ m → ((k : ℕ) → k < m → v k ≡ w k) → nodes_visits st ts v n ≡ nodes_visits st ts w n
same_nodes st [] v w n m le h = refl
same_nodes st (t ∷ ts) v w n m le h =
    ap (λ e. visits_at st t e ++ nodes_visits st ts v (suc n)) (h n (omega arith)) ∙ ap (λ vs. visits_at st t (w n) ++ vs) (same_nodes st ts v w (suc n) m (omega arith) h)

pub way_there : (st : Setting) (row : Row) (r : Paths) (s : Shared) (es : List Environment) (entry : Environment) (e : Exit) → ArePathsOf row r → length es ≡ length r.stations + 2
    → IsWalk st row e (λ n. exit_of s (slice_index_or es n entry)) → IsWay st row e (value_at s es (length r.stations + 1)) (way_visits st r.stations s es)
way_there st row r s es entry e of long walked =
    let ss = r.stations in
    let known = value_at s es in
    let val : ℕ → Exit = λ n. exit_of s (slice_index_or es n entry) in
    let tasks : length (tasks_of row) ≡ length ss = sym (ap length of.tasks) ∙ length-map ss station_task in
    let read : (k : ℕ) → k < length es → known k ≡ val k = λ k lt. ap (exit_of s) (get_or_default es k nothing_known entry lt) in
    let visits : way_visits st ss s es ≡ nodes_visits st (tasks_of row) val 1 =
    ap (λ ts. nodes_visits st ts known 1) of.tasks ∙ same_nodes st (tasks_of row) known val 1 (length es) (omega (arith, tasks, long)) read in
    let last : end_node row ≡ length ss + 1 = omega (arith, row-tasks row, tasks) in
    let end : val (end_node row) ≡ known (length ss + 1) = ap val last ∙ sym (read (length ss + 1) (omega (arith, long))) in
    record {
      visits = subst (λ vs. AllVisitsAgree vs (walk st row e).visits) (sym visits) walked.visits;
      ends = subst (λ x. ExitsAgree x (walk st row e).well) end walked.ends;
      well = subst WellExit end (walked.wells (end_node row) (omega arith));
    }

-- each place of the play is counted once
pub calls_there : (st : Setting) (ms : Registry) (d : PlayData) (r : Paths) (s : Shared) (es : List Environment) → ArePathsOf (play_row ms d) r → PlacesAreCounted
    → row_calls (way_visits st r.stations s es) (play_row ms d) ≡ places_calls (way_visits st r.stations s es) 0 (map station_task r.stations)
calls_there st ms d r s es of counted =
    let known = value_at s es in
    let P : List Task → Type 0 = λ ts. row_calls (nodes_visits st ts known 1) (play_row ms d) ≡ places_calls (nodes_visits st ts known 1) 0 ts in
    subst P (sym of.tasks) (counted ms d st known)
