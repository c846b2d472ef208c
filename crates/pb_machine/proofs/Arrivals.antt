-- A host that arrives is the definitions' host, settled.
use Rattle.std.proofs.Common.{◌≡◌, ℕ, suc, List, [], ◌∷◌, Bool, true, false, not, nat_lt, cond, Option, Some, None, refl, ◌∙◌, arith}
use Rattle.pb_language.specs.Task.{Task}
use Rattle.pb_language.specs.Links.{size}
use Rattle.pb_language.specs.Rest.{Rest, next}
use Rattle.pb_language.specs.Machine.{begins, waits, settled, is_marked, unmarked}
use Rattle.pb_machine.specs.Steps.{Move, rescuing, holding, releasing, Target, Step, play_steps}
use Rattle.pb_machine.specs.Hosts.{FlatHost, stands, at, moved, all_moved, is_passed, at_step, arrival}
use Rattle.pb_machine.specs.Ways.{moved_rest, step_rest, rest_along, rest_to, step_at, host_of}
use Rattle.pb_machine.specs.Laws.{AreHigher, ArrivalSettles}
use Rattle.pb_machine.proofs.Leads.{play_higher}
use Rattle.pb_machine.proofs.Trees.{ways, Lies, lies_all, lies_on, lies_ways, step_here}

pub moves_settle : (ss : List Step) (ms : List Move) (h : FlatHost) (r : Rest)
    → settled (host_of ss (all_moved ms h)) r ≡ settled (host_of ss h) (moved_rest ms r)
moves_settle ss [] h r = refl
moves_settle ss (rescuing d ∷ ms) h r = moves_settle ss ms (moved (rescuing d) h) r
moves_settle ss (holding m ∷ ms) h r = moves_settle ss ms (moved (holding m) h) r
moves_settle ss (releasing m ∷ ms) h r = moves_settle ss ms (moved (releasing m) h) r

-- a host that stands at the step of node o
stands_here : (ss : List Step) (s : Step) (o : ℕ) (a b : Rest) (ms : List ℕ) (h : FlatHost)
    → step_at ss o ≡ s → a ≡ rest_to ss s.ok → b ≡ rest_to ss s.failed
    → host_of ss (record h { marks = ms; stage = stands (at o) }) ≡ record (host_of ss h) { marks = ms; stage = waits (begins s.task a b) }
stands_here ss s o a b ms h e i j = rw (e, i, j) refl

module _ (ss : List Step) (go : Option ℕ → FlatHost → FlatHost) (o n : ℕ) (h : FlatHost) where
  -- at the step of node o
  at_it : (t : Task) (hd : Option ℕ) (x y : Target) (a b : Rest)
      → step_at ss o ≡ record { task = t; handler = hd; ok = x; failed = y } → a ≡ rest_to ss x
      → b ≡ rest_to ss y
      → host_of ss (go x.to (all_moved x.moves h)) ≡ settled (host_of ss h) a
      → host_of ss (at_step go o (record { task = t; handler = hd; ok = x; failed = y }) n h false (is_passed hd h.marks)) ≡ settled (host_of ss h) (step_rest hd t a b)
  at_it t None x y a b e i j on = stands_here ss _ o a b h.marks h e i j
  at_it t (Some k) x y a b e i j on = by_mark (is_marked k h.marks) where
    by_mark : (q : Bool)
        → host_of ss (at_step go o (record { task = t; handler = Some k; ok = x; failed = y }) n h false (not q)) ≡ cond q (settled (record (host_of ss h) { marks = unmarked k h.marks }) (next t a b)) (settled (host_of ss h) a)
    by_mark true = stands_here ss _ o a b (unmarked k h.marks) h e i j
    by_mark false = on

pub arrives : (ss rest : List Step) (o last : ℕ) (to : Option ℕ) (h : FlatHost) → Lies ss rest o
    → AreHigher last o rest
    → host_of ss (arrival rest o to h) ≡ settled (host_of ss h) (rest_along rest o to)
arrives ss rest o last None h l higher = refl
arrives ss [] o last (Some n) h l higher = refl
arrives ss (s ∷ rest) o last (Some n) h l higher =
    by_test (arrives ss rest (suc o) last (Some n) h (lies_on ss s rest o l) higher.2)
    (arrives ss rest (suc o) last s.ok.to (all_moved s.ok.moves h) (lies_on ss s rest o l) higher.2) (nat_lt o n) where
      on : Lies ss rest (suc o)
      on = lies_on ss s rest o l

      by_test : host_of ss (arrival rest (suc o) (Some n) h) ≡ settled (host_of ss h) (rest_along rest (suc o) (Some n))
          → host_of ss (arrival rest (suc o) s.ok.to (all_moved s.ok.moves h)) ≡ settled (host_of ss (all_moved s.ok.moves h)) (rest_along rest (suc o) s.ok.to)
          → (q : Bool)
          → host_of ss (at_step (arrival rest (suc o)) o s n h q (is_passed s.handler h.marks)) ≡ settled (host_of ss h) (cond q (rest_along rest (suc o) (Some n)) (step_rest s.handler s.task (ways rest (suc o) s.ok) (ways rest (suc o) s.failed)))
      by_test far near true = far
      by_test far near false =
          at_it ss (arrival rest (suc o)) o n h s.task s.handler s.ok s.failed (ways rest (suc o) s.ok) (ways rest (suc o) s.failed)
          (l.steps o (omega arith) ∙ step_here s rest o) (lies_ways ss rest o last s.ok on higher.0) (lies_ways ss rest o last s.failed on higher.1)
          (near ∙ moves_settle ss s.ok.moves h (rest_along rest (suc o) s.ok.to))

pub arrival_settles : ArrivalSettles
arrival_settles row t h =
    let ss = play_steps row in
    arrives ss ss 1 (suc (size row)) t.to (all_moved t.moves h) (lies_all ss) (play_higher row)
    ∙ moves_settle ss t.moves h (rest_along ss 1 t.to)
