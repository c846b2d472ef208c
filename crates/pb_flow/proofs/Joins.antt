-- Rows of steps one after the other.
use Rattle.std.proofs.Common.{◌≡◌, ℕ, suc, ◌+◌, ◌||◌, refl, ap, arith}
use Rattle.pb_language.specs.Book.{Steps, no_steps, task_step, block_step, flush_step}
use Rattle.pb_language.specs.BookForm.{Before}
use Rattle.pb_language.specs.Plays.{Surroundings, inside, is_given, places_in, row_of, task_at}
use Rattle.pb_language.specs.Task.{Handlers, Row, end, task, flush, section, block}
use Rattle.pb_play.specs.Plays.{head_view, step_layer, step_view, steps_of}
use Rattle.pb_task.specs.Tasks.{task_view}
use Rattle.pb_play.specs.declared.play.Step.{Step}
use Rattle.pb_play.specs.declared.play.Step.TheOpen.{Step-F}
use Rattle.pb_machine.specs.Joins.{joined}
use Rattle.pb_flow.proofs.Counts.{of-layer}

pub joined-assoc : (a b c : Row) → joined (joined a b) c ≡ joined a (joined b c)
joined-assoc end b c = refl
joined-assoc (task t row) b c = ap (task t) (joined-assoc row b c)
joined-assoc (flush hs row) b c = ap (flush hs) (joined-assoc row b c)
joined-assoc (section body hs row) b c = ap (section body hs) (joined-assoc row b c)
joined-assoc (block d body saves rescued always row) b c = ap (block d body saves rescued always) (joined-assoc row b c)

-- the row of steps before a row
pub row-joined : (hs : ℕ → Handlers) (n : ℕ) (s : Surroundings) (p : ℕ) (ss : Steps) (row : Row) → row_of hs n s p ss row ≡ joined (row_of hs n s p ss end) row
row-joined hs n s p no_steps row = refl
row-joined hs n s p (task_step t ss) row = ap (task (task_at s p t)) (row-joined hs n s (suc p) ss row)
row-joined hs n s p (flush_step l ss) row = ap (flush (hs p)) (row-joined hs n s (n + p) ss row)
row-joined hs n s p (block_step b x y z ss) row =
    ap (λ r. block s.depth (row_of hs n (record (inside s b) { rescued = s.rescued || is_given y }) p x end) (is_given y) (row_of hs n (record (inside s b) { depth = suc s.depth }) (places_in n x + p) y end) (row_of hs n (inside s b) (places_in n y + (places_in n x + p)) z end) r)
    (row-joined hs n s (places_in n z + (places_in n y + (places_in n x + p))) ss row)

-- a step before others
pub row-front : (hs : ℕ → Handlers) (n : ℕ) (s : Surroundings) (p q : ℕ) (step : Step) (ss : Steps) → p + places_in n (step_view step no_steps) ≡ q
    → row_of hs n s p (step_view step ss) end ≡ joined (row_of hs n s p (step_view step no_steps) end) (row_of hs n s q ss end)
row-front hs n s p q step ss = of-layer (λ f. p + places_in n (f no_steps) ≡ q → row_of hs n s p (f ss) end ≡ joined (row_of hs n s p (f no_steps) end) (row_of hs n s q ss end)) at step where
  at : (l : Step-F Before) → p + places_in n (step_layer l no_steps) ≡ q → row_of hs n s p (step_layer l ss) end ≡ joined (row_of hs n s p (step_layer l no_steps) end) (row_of hs n s q ss end)
  at (Step-F.Task t) e = let k : suc p ≡ q = omega arith in ap (λ k. task (task_at s p (task_view t)) (row_of hs n s k ss end)) k
  at (Step-F.Flush l) e = let k : n + p ≡ q = omega arith in ap (λ k. flush (hs p) (row_of hs n s k ss end)) k
  at (Step-F.Block b) e =
      let x = steps_of b.body.items in
      let y = steps_of b.rescue.items in
      let z = steps_of b.always.items in
      let h = head_view b.head in
      let k : places_in n z + (places_in n y + (places_in n x + p)) ≡ q = omega arith in
      ap (λ k. block s.depth (row_of hs n (record (inside s h) { rescued = s.rescued || is_given y }) p x end) (is_given y) (row_of hs n (record (inside s h) { depth = suc s.depth }) (places_in n x + p) y end) (row_of hs n (inside s h) (places_in n y + (places_in n x + p)) z end)
      (row_of hs n s k ss end)) k
