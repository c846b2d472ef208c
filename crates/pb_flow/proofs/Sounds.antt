-- Nodes that are put in front of sound ones are sound where their tasks are.
use Rattle.std.proofs.Common.{rules, ◌≡◌, ◌∙◌, ℕ, ◌+◌, ◌-◌, ◌<◌, List, [], ◌∷◌, ◌++◌, Option, drop, get_or, length, reverse, ap, sym, subst, arith}
use Rattle.std.proofs.lemmas.List.{get_or-reverse, length-reverse}
use Rattle.pb_language.specs.Book.{Registry}
use Rattle.pb_play.specs.Sound.{AreSound, IsSound, handler_tasks, play_tasks, step_tasks, tasks_in}
use Rattle.pb_play.specs.declared.play.Block.{Block}
use Rattle.pb_play.specs.declared.play.Handler.{Handler}
use Rattle.pb_play.specs.declared.play.Play.{Play}
use Rattle.pb_play.specs.declared.play.Step as Step-of
use Rattle.pb_play.specs.declared.play.Step.{Step, the_lemmas as step_lemmas}
use Rattle.pb_syntax.proofs.Left.{drop-at}
use Rattle.pb_task.specs.declared.task.Task.{Task}
use Rattle.pb_flow.specs.Build.{StaySound, block_tasks, sections_tasks}
use Rattle.pb_flow.specs.Nodes.{AreVisitedSound, IsVisitedSound}
use Rattle.pb_flow.specs.declared.tail.Tail.{Tail}
use Rattle.pb_flow.specs.declared.graph.Node.{Node}

-- of two lists the one and the other
pub sound-left : (ms : Registry) (ts us : List Task) → AreSound ms (ts ++ us) → AreSound ms ts
sound-left ms [] us h = tt
sound-left ms (t ∷ ts) us h = (h.0, sound-left ms ts us h.1)

pub sound-right : (ms : Registry) (ts us : List Task) → AreSound ms (ts ++ us) → AreSound ms us
sound-right ms [] us h = h
sound-right ms (t ∷ ts) us h = sound-right ms ts us h.1

-- nodes are sound in whatever order
pub sound-reverse : (ms : Registry) (line : Option ℕ) (ns ks : List Node) → ks ≡ reverse ns → AreVisitedSound ms line ns → AreVisitedSound ms line ks
sound-reverse ms line ns ks e h = λ k d lt.
    let long : k < length ns = omega (arith, ap length e, length-reverse ns) in
    subst (λ n. IsVisitedSound ms line n.visited) (sym (ap (λ xs. get_or xs k d) e ∙ get_or-reverse ns k d long)) (h (length ns - 1 - k) d (omega arith))

-- nothing is put, and what was put before stays
pub stay-nothing : (hs : List Handler) (ts : List Task) (t : Tail) → StaySound hs ts t t
stay-nothing hs ts t = record { sound = λ ms line a b o. o }

pub stay-more : (hs : List Handler) (ts us : List Task) (old new : Tail) → ((ms : Registry) → AreSound ms us → AreSound ms ts) → StaySound hs ts old new → StaySound hs us old new
stay-more hs ts us old new f h = record { sound = λ ms line a b o. h.sound ms line a (f ms b) o }

pub stay-both : (hs : List Handler) (ts : List Task) (old mid new : Tail) → StaySound hs ts old mid → StaySound hs ts mid new → StaySound hs ts old new
stay-both hs ts old mid new h i = record { sound = λ ms line a b o. i.sound ms line a b (h.sound ms line a b o) }

-- two lists, the second of which is put first
pub stay-append : (hs : List Handler) (ts us : List Task) (old mid new : Tail) → StaySound hs us old mid → StaySound hs ts mid new → StaySound hs (ts ++ us) old new
stay-append hs ts us old mid new h i = record { sound = λ ms line a b o. i.sound ms line a (sound-left ms ts us b) (h.sound ms line a (sound-right ms ts us b) o) }

-- one more step in front
pub stay-step : (hs : List Handler) (ss : List Step) (i j : ℕ) (s : Step) (old mid new : Tail) → j ≡ i + 1 → i < length ss → s ≡ get_or ss i s
    → StaySound hs (tasks_in (drop j ss)) old mid → StaySound hs (step_tasks s) mid new → StaySound hs (tasks_in (drop i ss)) old new
stay-step hs ss i j s old mid new one lt is h k =
    subst (λ xs. StaySound hs (tasks_in xs) old new) (sym (drop-at ss i s lt is))
    (stay-append hs (step_tasks s) (tasks_in (drop (i + 1) ss)) old mid new (subst (λ n. StaySound hs (tasks_in (drop n ss)) old mid) one h) k)

-- a task alone
pub task-alone : (ms : Registry) (s : Step) (t : Task) → s ≡ Step-of.Task t → AreSound ms (step_tasks s) → IsSound ms t
task-alone ms s t e h =
    let own : step_tasks (Step-of.Task t) ≡ t ∷ [] = search (rules, step_lemmas) in
    (subst (AreSound ms) (ap step_tasks e ∙ own) h).0

-- one more handler in front
pub stay-handler : (hs : List Handler) (i j : ℕ) (h : Handler) (old mid new : Tail) → j ≡ i + 1 → i < length hs → h ≡ get_or hs i h → StaySound (drop j hs) [] old mid
    → ((ms : Registry) (line : Option ℕ) → IsSound ms h.task → AreVisitedSound ms line mid.nodes.items → AreVisitedSound ms line new.nodes.items) → StaySound (drop i hs) [] old new
stay-handler hs i j h old mid new one lt is k p =
    let before = subst (λ n. StaySound (drop n hs) [] old mid) one k in
    let all : StaySound (h ∷ drop (i + 1) hs) [] old new = record { sound = λ ms line a b o. p ms line a.0 (before.sound ms line a.1 b o) } in
    subst (λ xs. StaySound xs [] old new) (sym (drop-at hs i h lt is)) all

-- the parts of a block, the last of them twice
pub stay-block : (hs : List Handler) (b : Block Step) (old one two three new : Tail) → StaySound hs (tasks_in b.always.items) old one → StaySound hs (tasks_in b.always.items) one two
    → StaySound hs (tasks_in b.rescue.items) two three → StaySound hs (tasks_in b.body.items) three new → StaySound hs (block_tasks b) old new
stay-block hs b old one two three new h i j k =
    stay-append hs (tasks_in b.body.items) _ old three new
    (stay-append hs (tasks_in b.rescue.items) (tasks_in b.always.items) old two three (stay-both hs (tasks_in b.always.items) old one two h i) j) k

-- the sections of a play, and its own tasks
pub stay-sections : (hs : List Handler) (p : Play) (old one two new : Tail) → StaySound hs (tasks_in p.post_tasks.items) old one → StaySound hs (tasks_in p.tasks.items) one two
    → StaySound hs (tasks_in p.pre_tasks.items) two new → StaySound hs (sections_tasks p) old new
stay-sections hs p old one two new h i j =
    stay-append hs (tasks_in p.pre_tasks.items) _ old two new (stay-append hs (tasks_in p.tasks.items) (tasks_in p.post_tasks.items) old one two h i) j

pub play-handlers : (ms : Registry) (p : Play) → AreSound ms (play_tasks p) → AreSound ms (handler_tasks p.handlers.items)
play-handlers ms p h =
    let more = sound-right ms (tasks_in p.tasks.items) _ (sound-right ms (tasks_in p.pre_tasks.items) _ h) in
    sound-right ms (tasks_in p.post_tasks.items) (handler_tasks p.handlers.items) more

pub play-sections : (ms : Registry) (p : Play) → AreSound ms (play_tasks p) → AreSound ms (sections_tasks p)
play-sections ms p h = at (tasks_in p.pre_tasks.items) (tasks_in p.tasks.items) (tasks_in p.post_tasks.items) (handler_tasks p.handlers.items) h where
  two : (xs ys zs : List Task) → AreSound ms (xs ++ (ys ++ zs)) → AreSound ms (xs ++ ys)
  two [] ys zs a = sound-left ms ys zs a
  two (x ∷ xs) ys zs a = (a.0, two xs ys zs a.1)

  at : (xs ys zs hs : List Task) → AreSound ms (xs ++ (ys ++ (zs ++ hs))) → AreSound ms (xs ++ (ys ++ zs))
  at [] ys zs hs a = two ys zs hs a
  at (x ∷ xs) ys zs hs a = (a.0, at xs ys zs hs a.1)
