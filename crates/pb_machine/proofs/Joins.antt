-- Rows one after the other, and rows that are put together of parts.
use Rattle.std.proofs.Common.{◌≡◌, ◌∙◌, ℕ, suc, ◌+◌, List, ◌∷◌, ◌++◌, Bool, map, refl, ap, ap₂, arith, append_assoc, append-nil}
use Rattle.std.proofs.lemmas.List.{map-append}
use Rattle.pb_language.specs.Task.{Task, Handlers, no_handlers, handler, Row, end, task, flush, section, block}
use Rattle.pb_language.specs.Links.{handler_places, size}
use Rattle.pb_machine.specs.Steps.{Step, Target, holding, releasing, leaving, moving, flush_target, row_target, flush_steps, saved_target, row_steps}
use Rattle.pb_machine.specs.Joins.{joined, flush_tasks, tasks_of, StepsJoin, StepsHaveTasks}

pub joined-size : (a b : Row) → size (joined a b) ≡ size a + size b
joined-size end b = omega arith
joined-size (task t row) b = omega (arith, joined-size row b)
joined-size (flush hs row) b = omega (arith, joined-size row b)
joined-size (section body hs row) b = omega (arith, joined-size row b)
joined-size (block d body saves rescued always row) b = omega (arith, joined-size row b)

pub joined-target : (a b : Row) (o m : ℕ) (after : Target) → o + size a ≡ m
    → row_target (joined a b) o after ≡ row_target a o (row_target b m after)
joined-target end b o m after e = ap (λ k. row_target b k after) (omega arith)
joined-target (task t row) b o m after e = refl
joined-target (flush hs row) b o m after e = ap (flush_target hs o) (joined-target row b (o + handler_places hs) m after (omega arith))
joined-target (section body hs row) b o m after e =
    let a = o + size body in
    ap (λ x. row_target body o (flush_target hs a x)) (joined-target row b (a + handler_places hs + handler_places hs) m after (omega arith))
joined-target (block d body saves rescued always row) b o m after e =
    let a = o + size body + size rescued in
    ap (λ x. row_target body o (row_target always a x)) (joined-target row b (a + size always + size always) m after (omega arith))

pub joined-steps : (a b : Row) (k o m : ℕ) (well hurt : Target) → o + size a ≡ m
    → row_steps (joined a b) k o well hurt ≡ row_steps a k o (row_target b m well) hurt ++ row_steps b k m well hurt
joined-steps end b k o m well hurt e = ap (λ i. row_steps b k i well hurt) (omega arith)
joined-steps (task t row) b k o m well hurt e =
    let i = joined-target row b (suc o) m well (omega arith) in
    let ss = joined-steps row b k (suc o) m well hurt (omega arith) in
    rw (i, ss) refl
joined-steps (flush hs row) b k o m well hurt e =
    let n = o + handler_places hs in
    let i = joined-target row b n m well (omega arith) in
    let ss = joined-steps row b k n m well hurt (omega arith) in
    rw (i, ss) (simp append_assoc)
joined-steps (section body hs row) b k o m well hurt e =
    let n = o + size body + handler_places hs + handler_places hs in
    let i = joined-target row b n m well (omega arith) in
    let ss = joined-steps row b k n m well hurt (omega arith) in
    rw (i, ss) (simp append_assoc)
joined-steps (block d body saves rescued always row) b k o m well hurt e =
    let n = o + size body + size rescued + size always + size always in
    let i = joined-target row b n m well (omega arith) in
    let ss = joined-steps row b k n m well hurt (omega arith) in
    rw (i, ss) (simp append_assoc)

-- the parts of a block, the last of them twice
pub block-steps : (d : ℕ) (body : Row) (saves : Bool) (rescued always : Row) (m o r a f : ℕ) (after hurt on fails inside : Target) (rest : List Step)
    → o + size body ≡ r → r + size rescued ≡ a → a + size always ≡ f
    → fails ≡ moving (holding m) (row_target always f (moving (releasing m) hurt))
    → on ≡ row_target always a after → inside ≡ row_target rescued r on
    → row_steps body m o on (saved_target d saves inside fails) ++ (row_steps rescued m r on fails ++ (row_steps always m a after hurt ++ (row_steps always (suc m) f (moving (releasing m) hurt) hurt ++ rest)))
    ≡ row_steps (block d body saves rescued always end) m o after hurt ++ rest
block-steps d body saves rescued always m o r a f after hurt on fails inside rest er ea ef eh ew es =
    rw (er, ea, ef, ← eh, ← ew, ← es) (simp (append_assoc, append-nil))

-- steps and a flush that is forced
pub section-steps : (body : Row) (hs : Handlers) (m o a f : ℕ) (after x y : Target) (rest : List Step)
    → o + size body ≡ a → a + handler_places hs ≡ f → x ≡ flush_target hs f leaving
    → y ≡ flush_target hs a after
    → row_steps body m o y x ++ (flush_steps hs a after ++ (flush_steps hs f leaving ++ rest)) ≡ row_steps (section body hs end) m o after leaving ++ rest
section-steps body hs m o a f after x y rest ea ef ex ey = rw (ea, ef, ← ex, ← ey) (simp (append_assoc, append-nil))

-- the tasks of the steps of a row are its tasks
flush-step-tasks : (hs : Handlers) (o : ℕ) (after : Target)
    → map (λ s. s.task) (flush_steps hs o after) ≡ flush_tasks hs
flush-step-tasks no_handlers o after = refl
flush-step-tasks (handler n t hs) o after = ap (λ ts. t ∷ ts) (flush-step-tasks hs (suc o) after)

both-tasks : (xs ys : List Step) (a b : List Task) → map (λ s. s.task) xs ≡ a
    → map (λ s. s.task) ys ≡ b → map (λ s. s.task) (xs ++ ys) ≡ a ++ b
both-tasks xs ys a b h i = map-append (λ (s : Step). s.task) xs ys ∙ ap₂ (λ x y. x ++ y) h i

pub step-tasks : (row : Row) (m o : ℕ) (well hurt : Target)
    → map (λ s. s.task) (row_steps row m o well hurt) ≡ tasks_of row
step-tasks end m o well hurt = refl
step-tasks (task t row) m o well hurt = ap (λ ts. t ∷ ts) (step-tasks row m (suc o) well hurt)
step-tasks (flush hs row) m o well hurt = both-tasks _ _ _ _ (flush-step-tasks hs o _) (step-tasks row m _ well hurt)
step-tasks (section body hs row) m o well hurt =
    both-tasks _ _ _ _ (step-tasks body m o _ _) (both-tasks _ _ _ _ (flush-step-tasks hs _ _) (both-tasks _ _ _ _ (flush-step-tasks hs _ _) (step-tasks row m _ well hurt)))
step-tasks (block d body saves rescued always row) m o well hurt =
    both-tasks _ _ _ _ (step-tasks body m o _ _) (both-tasks _ _ _ _ (step-tasks rescued m _ _ _)
    (both-tasks _ _ _ _ (step-tasks always m _ _ _) (both-tasks _ _ _ _ (step-tasks always (suc m) _ _ _) (step-tasks row m _ well hurt))))

pub steps_join : StepsJoin
steps_join a b m o well hurt = joined-steps a b m o (o + size a) well hurt refl

pub steps_have_tasks : StepsHaveTasks
steps_have_tasks row m o well hurt = step-tasks row m o well hurt
