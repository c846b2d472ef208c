-- Tasks that are prepared one by one, where their arguments stand in order.
use Rattle.std.proofs.Common.{◌≡◌, ◌∙◌, ℕ, zero, suc, ◌<◌, List, [], ◌∷◌, ◌++◌, length, map, true, Option, refl, sym, ap, subst, arith}
use Rattle.std.specs.List.{All}
use Rattle.pb_language.specs.Book.{Registry}
use Rattle.pb_language.specs.Expression.{Expression, Name, Parts}
use Rattle.pb_language.specs.Plays.{action_of}
use Rattle.pb_language.specs.Task.{Task}
use Rattle.pb_flow.specs.Nodes.{AreVisitedSound, IsVisitedSound, node_task}
use Rattle.pb_flow.specs.declared.graph.Node.{Node}
use Rattle.pb_flow.specs.declared.graph.Visited.{Visited}
use Rattle.pb_flow.specs.declared.graph.Visited.TheVariants as visited
use Rattle.pb_prepare.specs.Order.{has_order}
use Rattle.pb_prepare.proofs.Arguments.{names-kept}
use Rattle.pb_start.specs.Prepared.{Prepares}
use Rattle.pb_start.specs.declared.prepared.Prepared.{Prepared}
use Rattle.pb_task.specs.Tasks.{work_view}
use Rattle.pb_task.specs.declared.task.Work.{Work}
use Rattle.pb_task.specs.declared.task.Work.TheVariants as works
use Rattle.pb_template.specs.Entries.{are_ascending, entries_view, entry_names}
use Rattle.pb_template.specs.declared.entry.Entry.{Entry}
use Rattle.pb_steps.specs.Tasks.{ArePrepared}

-- each is the task at its place, where that one's arguments stand in order
abbrev pub ArePreparedInOrder : List Prepared → List Task → Type 0
ArePreparedInOrder [] [] = Unit {0}
ArePreparedInOrder (p ∷ ps) (t ∷ ts) = (has_order t.action ≡ true → Prepares p t) × ArePreparedInOrder ps ts
ArePreparedInOrder ps ts = ⊥

pub one-more : (ps : List Prepared) (ts : List Task) (p : Prepared) (t : Task) → ArePreparedInOrder ps ts → (has_order t.action ≡ true → Prepares p t) → ArePreparedInOrder (ps ++ p ∷ []) (ts ++ t ∷ [])
one-more [] [] p t h x = (x, tt)
one-more [] (u ∷ ts) p t h x = absurd h
one-more (q ∷ ps) [] p t h x = absurd h
one-more (q ∷ ps) (u ∷ ts) p t h x = (h.0, one-more ps ts p t h.1 x)

abbrev AreOrdered : List Task → Type 0
AreOrdered [] = Unit {0}
AreOrdered (t ∷ ts) = (has_order t.action ≡ true) × AreOrdered ts

all-prepared : (ps : List Prepared) (ts : List Task) → AreOrdered ts → ArePreparedInOrder ps ts → ArePrepared ps ts
all-prepared [] [] o h = tt
all-prepared [] (t ∷ ts) o h = absurd h
all-prepared (p ∷ ps) [] o h = absurd h
all-prepared (p ∷ ps) (t ∷ ts) o h = (h.0 o.0, all-prepared ps ts o.1 h.1)

-- what is visited has its arguments in order
work-ordered : (ms : Registry) (f : Name → Option Expression) (w : Work) (xs : List Entry) → are_ascending (entry_names xs) ≡ true → has_order (action_of ms f (work_view w (entries_view xs))) ≡ true
work-ordered ms f (works.Module m) xs h = ap are_ascending (names-kept f xs) ∙ h
work-ordered ms f works.Debug xs h = refl
work-ordered ms f works.SetFact xs h = ap are_ascending (names-kept f xs) ∙ h
work-ordered ms f (works.Assert a) xs h = refl
work-ordered ms f works.Fail xs h = refl

node-ordered : (ms : Registry) (vars : Parts) (line : Option ℕ) (n : Node) (v : Visited) → n.visited ≡ v → IsVisitedSound ms line v → has_order (node_task ms vars n).action ≡ true
node-ordered ms vars line n (visited.Gathering l) e h = rw e refl
node-ordered ms vars line n (visited.Task t) e h = rw e (work-ordered _ _ t.now.work t.now.arguments.items h.1.0)

nodes-ordered : (ms : Registry) (vars : Parts) (line : Option ℕ) (ns : List Node) → AreVisitedSound ms line ns → AreOrdered (map (node_task ms vars) ns)
nodes-ordered ms vars line [] h = tt
nodes-ordered ms vars line (n ∷ ns) h = (node-ordered ms vars line n n.visited refl (h zero n (omega arith)), nodes-ordered ms vars line ns (λ k d l. h (suc k) d (omega (arith, l))))

-- the tasks of nodes that are sound
pub tasks-prepared : (ms : Registry) (vars : Parts) (line : Option ℕ) (ns : List Node) (ps : List Prepared) (ts : List Task) → ts ≡ map (node_task ms vars) ns → AreVisitedSound ms line ns → ArePreparedInOrder ps ts → ArePrepared ps ts
tasks-prepared ms vars line ns ps ts same sound h = all-prepared ps ts (subst AreOrdered (sym same) (nodes-ordered ms vars line ns sound)) h
