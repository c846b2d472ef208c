-- The nodes of the plays of a book.
use Rattle.std.specs.Prelude.{◌≡◌, ◌⊎◌, List, [], ◌∷◌, Vec, map, option_map}
use Rattle.std.specs.declared.alloc.Global.{Global}
use Rattle.pb_language.specs.Book.{Registry}
use Rattle.pb_language.specs.Expression.{Name}
use Rattle.pb_language.specs.Plays.{names_of_handlers}
use Rattle.pb_play.specs.Plays.{play_view}
use Rattle.pb_play.specs.Sound.{AreSound, play_tasks}
use Rattle.pb_play.specs.declared.play.Play.{Play}
use Rattle.pb_route.specs.Routes.{Gathers}
use Rattle.pb_route.specs.Station.{station_task}
use Rattle.pb_start.specs.declared.prepared.Prepared.{Prepared}
use Rattle.pb_steps.specs.Tasks.{ArePrepared}
use Rattle.pb_steps.specs.Uses.{AreUsed, SomeUses}
use Rattle.pb_steps.specs.declared.nodes.PlayNodes.{PlayNodes}
use Rattle.pb_steps.specs.declared.step.PlaySteps.{PlaySteps}
use Rattle.pb_plan.specs.Plays.{plan_tasks}

-- they are those of the play, its modules are the registry's, and its facts are gathered so
pub record IsNodesOf (ms : Registry) (p : Play) (ns : PlayNodes) : Type 0 where
  pub play : ns.play.now ≡ p
  pub sound : AreSound ms (play_tasks ns.play.now)
  pub gathers : Gathers ms ns.play.now.gathering (option_map (λ t. t.now) ns.gathering)

abbrev pub AreNodesOf : Registry → List Play → List PlayNodes → Type 0
AreNodesOf ms [] [] = Unit {0}
AreNodesOf ms (p ∷ ps) (n ∷ ns) = IsNodesOf ms p n × AreNodesOf ms ps ns
AreNodesOf ms ps ns = ⊥

-- each step of the play knows what its task uses
abbrev pub IsUsedIn : Registry → List Name → PlaySteps → Play → Type 0
IsUsedIn ms names s p = AreUsed names (names_of_handlers (play_view p).handlers) s.steps.items
    (plan_tasks ms (play_view p))

abbrev pub AreUsesOf : Registry → List Name → List PlaySteps → List PlayNodes → Type 0
AreUsesOf ms names [] [] = Unit {0}
AreUsesOf ms names (s ∷ ss) (n ∷ ns) =
    (IsNodesOf ms n.play.now n → IsUsedIn ms names s n.play.now) × AreUsesOf ms names ss ns
AreUsesOf ms names ss ns = ⊥

abbrev pub AreTasksOf : Registry → List (Vec Prepared Global) → List PlayNodes → Type 0
AreTasksOf ms [] [] = Unit {0}
AreTasksOf ms (ts ∷ tss) (n ∷ ns) = (IsNodesOf ms n.play.now n
    → ArePrepared ts.items (plan_tasks ms (play_view n.play.now))) × AreTasksOf ms tss ns
AreTasksOf ms tss ns = ⊥

abbrev pub SomeNodesUse : List PlayNodes → Name → Type 0
SomeNodesUse [] n = ⊥
SomeNodesUse (p ∷ ps) n = SomeUses (map station_task p.stations.items) n ⊎ SomeNodesUse ps n
