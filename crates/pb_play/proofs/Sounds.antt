-- What is so of each task, list by list.
use Rattle.std.proofs.Common.{rules, ◌≡◌, List, [], ◌∷◌, ◌++◌, map, Option, Some, None, IfSome, append_assoc, append-nil, refl, sym, ap, ◌∙◌, subst}
use Rattle.pb_language.specs.Book.{Registry}
use Rattle.pb_task.specs.Tasks.{IsOrdered, IsResolved}
use Rattle.pb_task.specs.declared.task.Task.{Task}
use Rattle.pb_play.specs.Sound.{AreSound, IsSound, as_list, handler_tasks, joined, step_tasks, tasks_in}
use Rattle.pb_play.specs.declared.play.Block.{Block}
use Rattle.pb_play.specs.declared.play.Handler.{Handler}
use Rattle.pb_play.specs.declared.play.Step as Step-of
use Rattle.pb_play.specs.declared.play.Step.{Step, the_lemmas as step_lemmas}

pub both-sound : (ms : Registry) (ts us : List Task) → AreSound ms ts → AreSound ms us → AreSound ms (ts ++ us)
both-sound ms [] us a b = b
both-sound ms (t ∷ ts) us a b = (a.0, both-sound ms ts us a.1 b)

joined-push : (tss : List (List Task)) (ts : List Task) → joined (tss ++ ts ∷ []) ≡ joined tss ++ ts
joined-push [] ts = append-nil ts
joined-push (us ∷ tss) ts = ap (λ xs. us ++ xs) (joined-push tss ts) ∙ sym (append_assoc us (joined tss) ts)

push-map : {A : Type 0} (f : A → List Task) (xs : List A) (x : A) → joined (map f (xs ++ x ∷ [])) ≡ joined (map f xs) ++ f x
push-map f xs x = ap joined (at xs) ∙ joined-push (map f xs) (f x) where
  at : (ys : List _) → map f (ys ++ x ∷ []) ≡ map f ys ++ f x ∷ []
  at [] = refl
  at (y ∷ ys) = ap (λ zs. f y ∷ zs) (at ys)

pub one-more : {A : Type 0} (ms : Registry) (f : A → List Task) (xs ys : List A) (x : A) → ys ≡ xs ++ x ∷ [] → AreSound ms (joined (map f xs)) → AreSound ms (f x) → AreSound ms (joined (map f ys))
one-more ms f xs ys x e a b = subst (AreSound ms) (sym (ap (λ zs. joined (map f zs)) e ∙ push-map f xs x)) (both-sound ms (joined (map f xs)) (f x) a b)

pub more-handlers : (ms : Registry) (hs gs : List Handler) (h : Handler) → gs ≡ hs ++ h ∷ [] → AreSound ms (handler_tasks hs) → IsSound ms h.task → AreSound ms (handler_tasks gs)
more-handlers ms hs gs h e a b = subst (λ xs. AreSound ms (handler_tasks xs)) (sym e) (at hs a) where
  at : (xs : List Handler) → AreSound ms (handler_tasks xs) → AreSound ms (handler_tasks (xs ++ h ∷ []))
  at [] c = (b, tt)
  at (x ∷ xs) c = (c.0, at xs c.1)

-- the tasks of a block are those of its parts
pub block-tasks : (b : Block Step) → step_tasks (Step-of.Block b) ≡ tasks_in b.body.items ++ (tasks_in b.rescue.items ++ tasks_in b.always.items)
block-tasks b = search (rules, step_lemmas)

pub block-sound : (ms : Registry) (b : Block Step) → AreSound ms (tasks_in b.body.items) → AreSound ms (tasks_in b.rescue.items) → AreSound ms (tasks_in b.always.items) → AreSound ms (step_tasks (Step-of.Block b))
block-sound ms b x y z = subst (AreSound ms) (sym (block-tasks b)) (both-sound ms (tasks_in b.body.items) _ x (both-sound ms (tasks_in b.rescue.items) (tasks_in b.always.items) y z))

pub task-sound : (ms : Registry) (t : Option Task) → IfSome t (IsResolved ms) → IfSome t IsOrdered → AreSound ms (as_list t)
task-sound ms None a b = tt
task-sound ms (Some t) a b = ((a, b), tt)
