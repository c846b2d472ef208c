-- The nodes, the slots and the steps of plays, play by play.
use Rattle.std.proofs.Common.{Vec, Global, ◌≡◌, ◌∙◌, ℕ, zero, suc, ◌+◌, ◌<◌, List, [], ◌∷◌, ◌++◌, drop, take, get_or, length, map, refl, sym, ap, ap₂, subst, inl, inr, ◌⊎◌, ⊎_elim, arith}
use Rattle.std.specs.List.{All, AllByRecursion}
use Rattle.std.proofs.lemmas.List.Elements.{recursion_from_All}
use Rattle.pb_language.specs.Book.{Registry}
use Rattle.pb_language.specs.Expression.{Name, Parts}
use Rattle.pb_machine.specs.Steps.{Step as FlatStep}
use Rattle.pb_flow.specs.Nodes.{node_step, node_task}
use Rattle.pb_flow.specs.declared.graph.Node.{Node}
use Rattle.pb_play.specs.Plays.{play_view}
use Rattle.pb_play.specs.declared.play.Play.{Play}
use Rattle.pb_route.specs.Station.{station_task}
use Rattle.pb_start.specs.declared.prepared.Prepared.{Prepared}
use Rattle.pb_steps.specs.Tasks.{ArePrepared}
use Rattle.pb_steps.specs.Nodes.{AreNodes}
use Rattle.pb_steps.specs.Outlines.{PlayPlan, play_plan}
use Rattle.pb_steps.specs.Uses.{SomeUses}
use Rattle.pb_steps.specs.declared.nodes.PlayNodes.{PlayNodes}
use Rattle.pb_steps.specs.declared.step.PlaySteps.{PlaySteps}
use Rattle.pb_template.specs.Entries.{entries_view}
use Rattle.pb_plan.specs.Nodes.{AreNodesOf, AreTasksOf, AreUsesOf, IsNodesOf, IsUsedIn, SomeNodesUse}
use Rattle.pb_plan.specs.Plays.{AllPrepared, AllUsed, SomePlayUses, plan_tasks}

-- ---- one play more

pub nodes-more : (ms : Registry) (ps : List Play) (ns : List PlayNodes) (p : Play) (n : PlayNodes) → AreNodesOf ms ps ns → IsNodesOf ms p n → AreNodesOf ms (ps ++ p ∷ []) (ns ++ n ∷ [])
nodes-more ms [] [] p n h x = (x, tt)
nodes-more ms [] (m ∷ ns) p n h x = absurd h
nodes-more ms (q ∷ ps) [] p n h x = absurd h
nodes-more ms (q ∷ ps) (m ∷ ns) p n h x = (h.0, nodes-more ms ps ns p n h.1 x)

abbrev UsesOf : Registry → List Name → PlaySteps → PlayNodes → Type 0
UsesOf ms names s n = AreUsesOf ms names (s ∷ []) (n ∷ [])

pub uses-more : (ms : Registry) (names : List Name) (ss : List PlaySteps) (ns : List PlayNodes) (s : PlaySteps) (n : PlayNodes) → AreUsesOf ms names ss ns → UsesOf ms names s n
    → AreUsesOf ms names (ss ++ s ∷ []) (ns ++ n ∷ [])
uses-more ms names [] [] s n h x = x
uses-more ms names [] (m ∷ ns) s n h x = absurd h
uses-more ms names (t ∷ ss) [] s n h x = absurd h
uses-more ms names (t ∷ ss) (m ∷ ns) s n h x = (h.0, uses-more ms names ss ns s n h.1 x)

pub tasks-more : (ms : Registry) (tss : List (Vec Prepared Global)) (ns : List PlayNodes) (ts : Vec Prepared Global) (n : PlayNodes) → AreTasksOf ms tss ns → (IsNodesOf ms n.play.now n → ArePrepared ts.items (plan_tasks ms (play_view n.play.now)))
    → AreTasksOf ms (tss ++ ts ∷ []) (ns ++ n ∷ [])
tasks-more ms [] [] ts n h x = (x, tt)
tasks-more ms [] (m ∷ ns) ts n h x = absurd h
tasks-more ms (us ∷ tss) [] ts n h x = absurd h
tasks-more ms (us ∷ tss) (m ∷ ns) ts n h x = (h.0, tasks-more ms tss ns ts n h.1 x)

pub use-first : (ps : List PlayNodes) (p : PlayNodes) (n : Name) → SomeNodesUse ps n → SomeNodesUse (ps ++ p ∷ []) n
use-first [] p n h = absurd h
use-first (q ∷ ps) p n h = ⊎_elim (λ x. inl x) (λ x. inr (use-first ps p n x)) h

pub use-last : (ps : List PlayNodes) (p : PlayNodes) (n : Name) → SomeUses (map station_task p.stations.items) n → SomeNodesUse (ps ++ p ∷ []) n
use-last [] p n h = inl h
use-last (q ∷ ps) p n h = inr (use-last ps p n h)

pub use-either : (ps : List PlayNodes) (p : PlayNodes) (n : Name) → SomeNodesUse (ps ++ p ∷ []) n → SomeNodesUse ps n ⊎ SomeUses (map station_task p.stations.items) n
use-either [] p n h = ⊎_elim (λ x. inr x) (λ x. absurd x) h
use-either (q ∷ ps) p n h = ⊎_elim (λ x. inl (inl x)) (λ x. ⊎_elim (λ y. inl (inr y)) (λ y. inr y) (use-either ps p n x)) h

-- ---- the first that is left

pub first-left : (xs : List PlayNodes) (k : ℕ) (y : PlayNodes) (ys : List PlayNodes) → drop k xs ≡ y ∷ ys → (k < length xs) × (get_or xs k y ≡ y) × (drop (suc k) xs ≡ ys)
first-left [] zero y ys h = absurd (cc)
first-left [] (suc k) y ys h = absurd (cc)
first-left (x ∷ xs) zero y ys h = (omega arith, cc, cc)
first-left (x ∷ xs) (suc k) y ys h = let t = first-left xs k y ys h in let lt = t.0 in (omega arith, t.1, t.2)

pub none-left : (xs : List PlayNodes) (k : ℕ) → drop k xs ≡ [] → take k xs ≡ xs
none-left [] zero h = refl
none-left [] (suc k) h = refl
none-left (x ∷ xs) zero h = absurd (cc)
none-left (x ∷ xs) (suc k) h = ap (λ ys. x ∷ ys) (none-left xs k h)

-- ---- the plays of the book

tasks-of-steps : (ms : Registry) (vars : Parts) (ns : List Node) → map (node_task ms vars) ns ≡ map (λ (s : FlatStep). s.task) (map (node_step ms vars) ns)
tasks-of-steps ms vars [] = refl
tasks-of-steps ms vars (n ∷ ns) = ap (λ ts. node_task ms vars n ∷ ts) (tasks-of-steps ms vars ns)

-- the tasks that stand at a play's nodes are those of its plan
stand-there : (ms : Registry) (p : Play) (n : PlayNodes) → AreNodes n → IsNodesOf ms p n → map station_task n.stations.items ≡ plan_tasks ms (play_view p)
stand-there ms p n nodes is =
    let vars = entries_view n.play.now.vars.items in
    nodes.tasks ms is.sound is.gathers ∙ tasks-of-steps ms vars n.graph.tasks.items ∙ ap (map (λ (s : FlatStep). s.task)) (nodes.steps ms) ∙ ap (λ q. plan_tasks ms (play_view q)) is.play

of-itself : (ms : Registry) (p : Play) (n : PlayNodes) → IsNodesOf ms p n → IsNodesOf ms n.play.now n
of-itself ms p n is = record {
  play = refl;
  sound = is.sound;
  gathers = is.gathers;
}

pub all-used : (ms : Registry) (names : List Name) (ps : List Play) (ns : List PlayNodes) (ss : List PlaySteps) → AreNodesOf ms ps ns → AreUsesOf ms names ss ns → AllUsed ms names ss (map play_view ps)
all-used ms names [] [] [] h u = tt
all-used ms names [] [] (s ∷ ss) h u = absurd u
all-used ms names [] (n ∷ ns) ss h u = absurd h
all-used ms names (p ∷ ps) [] ss h u = absurd h
all-used ms names (p ∷ ps) (n ∷ ns) [] h u = absurd u
all-used ms names (p ∷ ps) (n ∷ ns) (s ∷ ss) h u = (subst (IsUsedIn ms names s) (h.0).play (u.0 (of-itself ms p n h.0)), all-used ms names ps ns ss h.1 u.1)

pub all-prepared : (ms : Registry) (ps : List Play) (ns : List PlayNodes) (tss : List (Vec Prepared Global)) → AreNodesOf ms ps ns → AreTasksOf ms tss ns → AllPrepared ms tss (map play_view ps)
all-prepared ms [] [] [] h u = tt
all-prepared ms [] [] (ts ∷ tss) h u = absurd u
all-prepared ms [] (n ∷ ns) tss h u = absurd h
all-prepared ms (p ∷ ps) [] tss h u = absurd h
all-prepared ms (p ∷ ps) (n ∷ ns) [] h u = absurd u
all-prepared ms (p ∷ ps) (n ∷ ns) (ts ∷ tss) h u =
    (subst (λ q. ArePrepared ts.items (plan_tasks ms (play_view q))) (h.0).play (u.0 (of-itself ms p n h.0)), all-prepared ms ps ns tss h.1 u.1)

pub plans-of : (ms : Registry) (ps : List Play) (ns : List PlayNodes) → AreNodesOf ms ps ns → map (λ (n : PlayNodes). play_plan ms (play_view n.play.now)) ns ≡ map (λ p. play_plan ms (play_view p)) ps
plans-of ms [] [] h = refl
plans-of ms [] (n ∷ ns) h = absurd h
plans-of ms (p ∷ ps) [] h = absurd h
plans-of ms (p ∷ ps) (n ∷ ns) h = ap₂ (λ (x : PlayPlan) (xs : List PlayPlan). x ∷ xs) (ap (λ q. play_plan ms (play_view q)) (h.0).play) (plans-of ms ps ns h.1)

-- each play has so many handlers as its nodes know
pub handlers-of : (ms : Registry) (ps : List Play) (ns : List PlayNodes) → AreNodesOf ms ps ns → map (λ (n : PlayNodes). length n.play.now.handlers.items) ns ≡ map (λ (p : Play). length p.handlers.items) ps
handlers-of ms [] [] h = refl
handlers-of ms [] (n ∷ ns) h = absurd h
handlers-of ms (p ∷ ps) [] h = absurd h
handlers-of ms (p ∷ ps) (n ∷ ns) h = ap₂ (λ (k : ℕ) (ks : List ℕ). k ∷ ks) (ap (λ (q : Play). length q.handlers.items) (h.0).play) (handlers-of ms ps ns h.1)

used-there : (ms : Registry) (ps : List Play) (ns : List PlayNodes) (m : Name) → AllByRecursion AreNodes ns → AreNodesOf ms ps ns → SomeNodesUse ns m → SomePlayUses ms (map play_view ps) m
used-there ms [] [] m a h u = absurd u
used-there ms [] (n ∷ ns) m a h u = absurd h
used-there ms (p ∷ ps) [] m a h u = absurd h
used-there ms (p ∷ ps) (n ∷ ns) m a h u =
    ⊎_elim (λ x. inl (subst (λ ts. SomeUses ts m) (stand-there ms p n a.0 h.0) x)) (λ x. inr (used-there ms ps ns m a.1 h.1 x)) u

used-here : (ms : Registry) (ps : List Play) (ns : List PlayNodes) (m : Name) → AllByRecursion AreNodes ns → AreNodesOf ms ps ns → SomePlayUses ms (map play_view ps) m → SomeNodesUse ns m
used-here ms [] [] m a h u = absurd u
used-here ms [] (n ∷ ns) m a h u = absurd h
used-here ms (p ∷ ps) [] m a h u = absurd h
used-here ms (p ∷ ps) (n ∷ ns) m a h u =
    ⊎_elim (λ x. inl (subst (λ ts. SomeUses ts m) (sym (stand-there ms p n a.0 h.0)) x)) (λ x. inr (used-here ms ps ns m a.1 h.1 x)) u

pub plays-use : (ms : Registry) (ps : List Play) (ns : List PlayNodes) (m : Name) → All AreNodes ns → AreNodesOf ms ps ns → SomeNodesUse ns m → SomePlayUses ms (map play_view ps) m
plays-use ms ps ns m a h u = used-there ms ps ns m (recursion_from_All AreNodes ns a) h u

pub nodes-use : (ms : Registry) (ps : List Play) (ns : List PlayNodes) (m : Name) → All AreNodes ns → AreNodesOf ms ps ns → SomePlayUses ms (map play_view ps) m → SomeNodesUse ns m
nodes-use ms ps ns m a h u = used-here ms ps ns m (recursion_from_All AreNodes ns a) h u
