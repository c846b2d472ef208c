-- How many nodes a play has.
use Rattle.std.proofs.Common.{◌≡◌, ◌∙◌, ℕ, suc, ◌+◌, ◌*◌, ◌^◌, ◌≤◌, List, [], ◌∷◌, ◌++◌, length, Bool, true, false, cond, ◌||◌, Option, Some, None, refl, ap, arith, length-append}
use Rattle.pb_language.specs.Book.{HandlerData, PlayData, Registry, Steps, no_steps, task_step, block_step, flush_step}
use Rattle.pb_language.specs.Links.{handler_places, size}
use Rattle.pb_language.specs.Plays.{Surroundings, ended_row, gathered_row, handlers_at, inside, is_given, places_in, play_row, play_surroundings, row_of, section_row, sections_row}
use Rattle.pb_language.specs.Sites.{gathering_steps, section_steps, sections_steps, steps_in, steps_of}
use Rattle.pb_language.specs.Task.{Handlers, no_handlers, handler, Row, end, task, flush, section, block}
use Rattle.pb_flow.specs.Flow.{flush_tasks, tasks_of}
use Rattle.pb_flow.specs.Places.{play_places, section_places}

-- a flush has a task at each node
pub flush-tasks : (hs : Handlers) → length (flush_tasks hs) ≡ handler_places hs
flush-tasks no_handlers = refl
flush-tasks (handler n t hs) = ap suc (flush-tasks hs)

-- each node has a task
pub row-tasks : (row : Row) → length (tasks_of row) ≡ size row
row-tasks end = refl
row-tasks (task t row) = ap suc (row-tasks row)
row-tasks (flush hs row) =
    omega (arith, length-append (flush_tasks hs) (tasks_of row), flush-tasks hs, row-tasks row)
row-tasks (section body hs row) =
    let fs = flush_tasks hs in
    let r = tasks_of row in
    omega (arith, length-append (tasks_of body) (fs ++ (fs ++ r)), length-append fs (fs ++ r), length-append fs r, flush-tasks hs, row-tasks body, row-tasks row)
row-tasks (block d body saves rescued always row) =
    let a = tasks_of always in
    let r = tasks_of row in
    let y = tasks_of rescued in
    omega (arith, length-append (tasks_of body) (y ++ (a ++ (a ++ r))), length-append y (a ++ (a ++ r)), length-append a (a ++ r), length-append a r, row-tasks body, row-tasks rescued, row-tasks always, row-tasks row)

-- a flush has as many nodes as there are handlers
pub handler-nodes : (s : Surroundings) (i p : ℕ) (hs : List HandlerData) → handler_places (handlers_at s i p hs) ≡ length hs
handler-nodes s i p [] = refl
handler-nodes s i p (h ∷ hs) = ap suc (handler-nodes s (suc i) (suc p) hs)

-- steps in one more `always` part count twice
pub twice : (n k : ℕ) (ss : Steps) → steps_in n (suc k) ss ≡ steps_in n k ss + steps_in n k ss
twice n k no_steps = refl
twice n k (task_step t ss) = grind (arith, twice n k ss)
twice n k (flush_step l ss) = let e : 2 ^ suc k ≡ 2 ^ k + 2 ^ k = omega arith in omega (arith, ap (λ x. x * n) e, twice n k ss)
twice n k (block_step b x y z ss) = omega (arith, twice n k x, twice n k y, twice n (suc k) z, twice n k ss)

-- steps have as many nodes as are counted
pub step-nodes : (hs : ℕ → Handlers) (n : ℕ) → ((p : ℕ) → handler_places (hs p) ≡ n) → (s : Surroundings) (p : ℕ) (ss : Steps) (row : Row) → size (row_of hs n s p ss row) ≡ steps_in n 0 ss + size row
step-nodes hs n many s p no_steps row = omega arith
step-nodes hs n many s p (task_step t ss) row = omega (arith, step-nodes hs n many s (suc p) ss row)
step-nodes hs n many s p (flush_step l ss) row = omega (arith, many p, step-nodes hs n many s (n + p) ss row)
step-nodes hs n many s p (block_step b x y z ss) row =
    let after = places_in n z + (places_in n y + (places_in n x + p)) in
    omega (
      arith,
      step-nodes hs n many (record (inside s b) { rescued = s.rescued || is_given y }) p x end,
      step-nodes hs n many (record (inside s b) { depth = suc s.depth }) (places_in n x + p) y end,
      step-nodes hs n many (inside s b) (places_in n y + (places_in n x + p)) z end,
      step-nodes hs n many s after ss row,
      twice n 0 z,
    )

-- so has a section, and what follows it
pub section-nodes : (hs : ℕ → Handlers) (n : ℕ) → ((p : ℕ) → handler_places (hs p) ≡ n) → (s : Surroundings) (forces : Bool) (p : ℕ) (ss : Steps) (go : ℕ → Row) (m : ℕ) → ((q : ℕ) → size (go q) ≡ m)
    → size (section_row hs n s forces p ss go) ≡ section_steps n (cond forces 2 1) ss + m
section-nodes hs n many s forces p ss go m rest = at (is_given ss) forces where
  at : (given forces : Bool) → size (cond given (ended_row forces (hs (places_in n ss + p)) (row_of hs n s p ss) (go (n + (places_in n ss + p)))) (go p)) ≡ cond given (steps_in n 0 ss + cond forces 2 1 * n) 0 + m
  at false forces = rest p ∙ omega arith
  at true false = let q = places_in n ss + p in
      omega (arith, many q, rest (n + q), step-nodes hs n many s p ss (flush (hs q) (go (n + q))))
  at true true = let q = places_in n ss + p in
      omega (arith, many q, rest (n + q), step-nodes hs n many s p ss end)

pub sections-nodes : (hs : ℕ → Handlers) (n : ℕ) → ((p : ℕ) → handler_places (hs p) ≡ n) → (s : Surroundings) (p : ℕ) (play : PlayData) → size (sections_row hs n s p play) ≡ sections_steps n (cond play.forces 2 1) play
sections-nodes hs n many s p play =
    let modes = cond play.forces 2 1 in
    let last = section_steps n modes play.post_tasks in
    let third : ℕ → Row = λ r. section_row hs n s play.forces r play.post_tasks (λ t. end) in
    let second : ℕ → Row = λ q. section_row hs n s play.forces q play.tasks third in
    let c : (r : ℕ) → size (third r) ≡ last + 0 = λ r. section-nodes hs n many s play.forces r play.post_tasks (λ t. end) 0 (λ q. refl) in
    let b : (q : ℕ) → size (second q) ≡ section_steps n modes play.tasks + (last + 0) = λ q. section-nodes hs n many s play.forces q play.tasks third (last + 0) c in
    omega (arith, section-nodes hs n many s play.forces p play.pre_tasks second (section_steps n modes play.tasks + (last + 0)) b)

gathered-nodes : (hs : ℕ → Handlers) (n : ℕ) → ((p : ℕ) → handler_places (hs p) ≡ n) → (s : Surroundings) (play : PlayData) (g : Option ℕ) → size (gathered_row hs n s play g) ≡ gathering_steps g + sections_steps n (cond play.forces 2 1) play
gathered-nodes hs n many s play None = omega (arith, sections-nodes hs n many s 0 play)
gathered-nodes hs n many s play (Some l) = omega (arith, sections-nodes hs n many s 1 play)

-- and a play
pub play-nodes : (ms : Registry) (p : PlayData) → size (play_row ms p) ≡ steps_of p
play-nodes ms p =
    let s = play_surroundings ms p in
    gathered-nodes (λ q. handlers_at s 0 q p.handlers) (length p.handlers) (λ q. handler-nodes s 0 q p.handlers) s p p.gathering

-- steps have no more places than nodes
pub places-few : (n : ℕ) (ss : Steps) → places_in n ss ≤ steps_in n 0 ss
places-few n no_steps = omega arith
places-few n (task_step t ss) = omega (arith, places-few n ss)
places-few n (flush_step l ss) = omega (arith, places-few n ss)
places-few n (block_step b x y z ss) = omega (arith, places-few n x, places-few n y, places-few n z, places-few n ss, twice n 0 z)

section-few : (n : ℕ) (forces : Bool) (ss : Steps) → section_places n ss ≤ section_steps n (cond forces 2 1) ss
section-few n forces ss = at (is_given ss) forces where
  at : (given forces : Bool) → cond given (places_in n ss + n) 0 ≤ cond given (steps_in n 0 ss + cond forces 2 1 * n) 0
  at false forces = omega arith
  at true true = omega (arith, places-few n ss)
  at true false = omega (arith, places-few n ss)

pub play-few : (p : PlayData) → play_places p ≤ steps_of p
play-few p =
    let n = length p.handlers in
    omega (arith, section-few n p.forces p.pre_tasks, section-few n p.forces p.tasks, section-few n p.forces p.post_tasks)
