-- The places of a play's tasks, each taken once, go up by one from 0.
use Rattle.std.proofs.Common.{◌≡◌, ◌+◌, ℕ, suc, List, [], ◌∷◌, ◌++◌, Bool, true, false, ◌||◌, cond, Option, Some, None, length, refl, subst, arith}
use Rattle.pb_language.specs.Book.{Steps, no_steps, task_step, block_step, flush_step, HandlerData, PlayData, Registry}
use Rattle.pb_language.specs.Plays.{Surroundings, inside, is_given, places_in, handlers_at, row_of, ended_row, section_row, sections_row, gathered_row, play_surroundings, play_row}
use Rattle.pb_language.specs.Task.{Task, Handlers, Row, end, flush}
use Rattle.pb_flow.specs.Flow.{flush_tasks}
use Rattle.pb_route.proofs.PlacesFirsts.{firsts, GoUp, up_both}

-- up to some place
abbrev pub Placed : ℕ → Row → Type 0
Placed p row = (q : ℕ) × GoUp p (firsts row) q

up_from : (p q r : ℕ) (ts : List Task) → p ≡ q → GoUp p ts r → GoUp q ts r
up_from p q r ts e a = subst (λ k. GoUp k ts r) e a

up_to : (p q r : ℕ) (ts : List Task) → q ≡ r → GoUp p ts q → GoUp p ts r
up_to p q r ts e a = subst (λ k. GoUp p ts k) e a

handlers_up : (s : Surroundings) (i p : ℕ) (hs : List HandlerData) → GoUp p (flush_tasks (handlers_at s i p hs)) (length hs + p)
handlers_up s i p [] = omega arith
handlers_up s i p (h ∷ hs) = (refl, up_to (suc p) (length hs + suc p) (suc (length hs) + p) (flush_tasks (handlers_at s (suc i) (suc p) hs)) (omega arith) (handlers_up s (suc i) (suc p) hs))

module _ (hs : ℕ → Handlers) (n : ℕ) (flush_up : (p : ℕ) → GoUp p (flush_tasks (hs p)) (n + p)) where
  steps_up : (s : Surroundings) (p q : ℕ) (ss : Steps) (row : Row) → GoUp (places_in n ss + p) (firsts row) q → GoUp p (firsts (row_of hs n s p ss row)) q
  steps_up s p q no_steps row a = up_from (0 + p) p q (firsts row) (omega arith) a
  steps_up s p q (task_step t ss) row a = (refl, steps_up s (suc p) q ss row (up_from (suc (places_in n ss) + p) (places_in n ss + suc p) q (firsts row) (omega arith) a))
  steps_up s p q (flush_step l ss) row a =
      up_both p (n + p) q (flush_tasks (hs p)) (firsts (row_of hs n s (n + p) ss row)) (flush_up p)
      (steps_up s (n + p) q ss row (up_from ((n + places_in n ss) + p) (places_in n ss + (n + p)) q (firsts row) (omega arith) a))
  steps_up s p q (block_step b x y z ss) row a =
      let px = places_in n x + p in
      let py = places_in n y + px in
      let pz = places_in n z + py in
      let body = row_of hs n (record (inside s b) { rescued = s.rescued || is_given y }) p x end in
      let rescued = row_of hs n (record (inside s b) { depth = suc s.depth }) px y end in
      let always = row_of hs n (inside s b) py z end in
      let rest = row_of hs n s pz ss row in
      up_both p px q (firsts body) (firsts rescued ++ (firsts always ++ firsts rest)) (steps_up (record (inside s b) { rescued = s.rescued || is_given y }) p px x end refl)
      (up_both px py q (firsts rescued) (firsts always ++ firsts rest) (steps_up (record (inside s b) { depth = suc s.depth }) px py y end refl)
      (up_both py pz q (firsts always) (firsts rest) (steps_up (inside s b) py pz z end refl)
      (steps_up s pz q ss row (up_from ((places_in n x + (places_in n y + (places_in n z + places_in n ss))) + p) (places_in n ss + pz) q (firsts row) (omega arith) a))))

  ended_up : (forces : Bool) (s : Surroundings) (p q : ℕ) (ss : Steps) (row : Row) → GoUp (n + (places_in n ss + p)) (firsts row) q → GoUp p (firsts (ended_row forces (hs (places_in n ss + p)) (row_of hs n s p ss) row)) q
  ended_up true s p q ss row a =
      let r = places_in n ss + p in
      up_both p r q (firsts (row_of hs n s p ss end)) (flush_tasks (hs r) ++ firsts row) (steps_up s p r ss end refl) (up_both r (n + r) q (flush_tasks (hs r)) (firsts row) (flush_up r) a)
  ended_up false s p q ss row a =
      let r = places_in n ss + p in
      steps_up s p q ss (flush (hs r) row) (up_both r (n + r) q (flush_tasks (hs r)) (firsts row) (flush_up r) a)

  section_up : (given forces : Bool) (s : Surroundings) (p : ℕ) (ss : Steps) (go : ℕ → Row) → ((r : ℕ) → Placed r (go r))
      → Placed p (cond given (ended_row forces (hs (places_in n ss + p)) (row_of hs n s p ss) (go (n + (places_in n ss + p)))) (go p))
  section_up true forces s p ss go h = let r = n + (places_in n ss + p) in ((h r).0, ended_up forces s p (h r).0 ss (go r) (h r).1)
  section_up false forces s p ss go h = h p

  sections_up : (s : Surroundings) (p : ℕ) (play : PlayData) → Placed p (sections_row hs n s p play)
  sections_up s p play =
      let last : ℕ → Row = λ r. section_row hs n s play.forces r play.post_tasks (λ q. end) in
      section_up (is_given play.pre_tasks) play.forces s p play.pre_tasks (λ q. section_row hs n s play.forces q play.tasks last)
      (λ q. section_up (is_given play.tasks) play.forces s q play.tasks last (λ r. section_up (is_given play.post_tasks) play.forces s r play.post_tasks (λ q. end) (λ q. (q, refl))))

  gathered_up : (s : Surroundings) (play : PlayData) (o : Option ℕ) → Placed 0 (gathered_row hs n s play o)
  gathered_up s play None = sections_up s 0 play
  gathered_up s play (Some l) = let rest = sections_up s 1 play in (rest.0, (refl, rest.1))

pub play_up : (ms : Registry) (play : PlayData) → Placed 0 (play_row ms play)
play_up ms play =
    let s = play_surroundings ms play in
    gathered_up (λ p. handlers_at s 0 p play.handlers) (length play.handlers) (λ p. handlers_up s 0 p play.handlers) s play play.gathering
