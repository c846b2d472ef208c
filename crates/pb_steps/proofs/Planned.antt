-- What is kept of the nodes of a graph, beside the steps of the row's plan.
use Rattle.std.proofs.Common.{◌≡◌, ◌+◌, ℕ, List, [], ◌∷◌, ◌++◌, length, length-append, map, Option, refl, sym, ap, ap₂, ◌∙◌, arith}
use Rattle.std.proofs.lemmas.List.{length-map}
use Rattle.pb_language.specs.Book.{Registry}
use Rattle.pb_language.specs.Expression.{Parts}
use Rattle.pb_language.specs.Task.{Row}
use Rattle.pb_machine.specs.Laws.{BeginIsPlain, StepsLeadAlongLinks}
use Rattle.pb_machine.specs.Steps.{Move, Target, Step as FlatStep, play_begin, play_steps}
use Rattle.pb_flow.specs.Flow.{begins_at}
use Rattle.pb_flow.specs.Nodes.{node_step, node_task}
use Rattle.pb_flow.specs.declared.graph.Node.{Node}
use Rattle.pb_steps.specs.Outlines.{Outline, PlayPlan, outline}

-- one more is made of the first that is left
pub one-more : {X Y A : Type 0} → (f : X → A) (g : Y → A) (made : List Y) (y : Y) (x : X) (left : List X) → g y ≡ f x → map g made ++ f x ∷ map f left ≡ map g (made ++ y ∷ []) ++ map f left
one-more f g [] y x left e = ap (λ a. a ∷ map f left) (sym e)
one-more f g (z ∷ made) y x left e = ap (λ os. g z ∷ os) (one-more f g made y x left e)

-- one of each is made of those that aren't left
pub as-many : {X Y A : Type 0} → (f : X → A) (g : Y → A) (all left : List X) (made : List Y) → map f all ≡ map g made ++ map f left → length all ≡ length made + length left
as-many f g all left made e = sym (length-map all f) ∙ ap length e ∙ length-append (map g made) (map f left) ∙ ap₂ (λ m n. m + n) (length-map made g) (length-map left f)

pub nothing-left : {X : Type 0} (xs : List X) (n : ℕ) → length xs ≡ n → n ≡ 0 → xs ≡ []
nothing-left [] n h i = refl
nothing-left (x ∷ xs) n h i = absurd (omega (arith, h, i))

pub nodes-outlined : (ms : Registry) (vars : Parts) (ns : List Node) → map (λ n. outline (node_step ms vars n)) ns ≡ map outline (map (node_step ms vars) ns)
nodes-outlined ms vars [] = refl
nodes-outlined ms vars (n ∷ ns) = ap (λ os. outline (node_step ms vars n) ∷ os) (nodes-outlined ms vars ns)

abbrev target_of : List Move → Option ℕ → Target
target_of moves to = record { moves = moves; to = to }

abbrev plan_of : Target → List Outline → PlayPlan
plan_of begin steps = record { begin = begin; steps = steps }

-- the laws of flat plans say where a host begins
pub planned : (row : Row) (begin : Target) (first : Option ℕ) (os : List Outline) (ss : List FlatStep) → StepsLeadAlongLinks → BeginIsPlain → begin ≡ target_of [] first → first ≡ begins_at row
    → ss ≡ play_steps row → os ≡ map outline ss → plan_of begin os ≡ plan_of (play_begin row) (map outline (play_steps row))
planned row begin first os ss along plain b f s o =
    let there : first ≡ (play_begin row).to = f ∙ sym (along row).1 in
    let same : target_of [] first ≡ play_begin row = ap₂ target_of (sym (plain row)) there in
    ap₂ plan_of (b ∙ same) (o ∙ ap (map outline) s)

-- the tasks of nodes are those of their steps
pub tasks-planned : (ms : Registry) (vars : Parts) (ns : List Node) → map (node_task ms vars) ns ≡ map (λ (s : FlatStep). s.task) (map (node_step ms vars) ns)
tasks-planned ms vars [] = refl
tasks-planned ms vars (n ∷ ns) = ap (λ ts. node_task ms vars n ∷ ts) (tasks-planned ms vars ns)
