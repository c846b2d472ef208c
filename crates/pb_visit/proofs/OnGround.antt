-- What is asked of a task on its ground, and what its scopes are there.
use Rattle.std.proofs.Common.{◌≡◌, ◌∙◌, ℕ, List, Bool, true, false, cond, Option, Some, None, option_map, is_some, map, refl, sym, ap, subst}
use Rattle.std.specs.declared.alloc.Global.{Global}
use Rattle.std.specs.declared.sync.Arc.{Arc}
use Rattle.pb_semantics.specs.Kind.{KindData, Slots}
use Rattle.pb_semantics.proofs.Bools.{untrue}
use Rattle.pb_semantics.proofs.Names.{own_name}
use Rattle.pb_language.specs.Book.{Registry}
use Rattle.pb_language.specs.Cases.{Sets, action_sets, parts_set}
use Rattle.pb_language.specs.Expansion.{all_expanded, parts_expanded, trees}
use Rattle.pb_language.specs.Expression.{Expressions, Name, Expression, Parts, no_expressions}
use Rattle.pb_language.specs.Fit.{Fault, first}
use Rattle.pb_language.specs.Judgement.{action_fault, conditions_fault}
use Rattle.pb_language.specs.Narrow.{narrow_each}
use Rattle.pb_language.specs.Plays.{action_of, append_expressions}
use Rattle.pb_language.specs.Scope.{Scope}
use Rattle.pb_language.specs.Setting.{Setting, action_scope, item_scope, loop_kind, start_scope}
use Rattle.pb_language.specs.Task.{Task}
use Rattle.pb_syntax.specs.ExprView.{exprs_view}
use Rattle.pb_sig.specs.ModuleView.{known_view}
use Rattle.pb_sig.specs.declared.registry.Known.{Known}
use Rattle.pb_task.specs.Tasks.{Resolves, work_view}
use Rattle.pb_task.specs.declared.task.Work.{Work}
use Rattle.pb_task.specs.declared.task.Work.TheVariants.{Module, Debug, SetFact, Assert, Fail}
use Rattle.pb_template.specs.Entries.{entries_view}
use Rattle.pb_template.specs.declared.entry.Entry.{Entry}
use Rattle.pb_vars.specs.InScope.{in_scope}
use Rattle.pb_forms.specs.FitView.{fault_view}
use Rattle.pb_taught.specs.TaughtView.{scope_view}
use Rattle.pb_taught.specs.declared.scope.Taught.{Taught}
use Rattle.pb_forms.specs.declared.unfit.Unfit.{Unfit}
use Rattle.pb_flow.specs.Nodes.{conditions_after}
use Rattle.pb_flow.specs.declared.graph.Around.{Around}
use Rattle.pb_outlook.specs.Standing.{before_at}
use Rattle.pb_visit.specs.Footing.{Footing, before_on, item_on, visit_footing}
use Rattle.pb_route.specs.Station.{facts_of, lone_registry}
use Rattle.pb_route.proofs.Placed.{lone_resolves}
use Rattle.pb_visit.specs.Visits.{env_of, item_before, task_there}
use Rattle.pb_visit.specs.declared.visit.Visit.{Visit}

-- what a task does is asked where that is known of its own names
pub action_at : (st : Setting) (vars : Parts) (place : ℕ) (own its : Slots) (t : Taught) (w : Work) (xs ys : List Entry) (u : Option Fault) → own ≡ its → xs ≡ ys
    → ((ms : Registry) → Resolves ms w → u ≡ action_fault (scope_view (before_at st vars place true own) t) (action_of ms (trees vars) (work_view w (entries_view xs))))
    → (ms : Registry) → Resolves ms w → u ≡ action_fault (scope_view (before_at st vars place true its) t) (action_of ms (trees vars) (work_view w (entries_view ys)))
action_at st vars place own its t w xs ys u h i f ms r =
    f ms r ∙ ap (λ ss. action_fault (scope_view (before_at st vars place true ss) t) (action_of ms (trees vars) (work_view w (entries_view xs)))) h
    ∙ ap (λ es. action_fault (scope_view (before_at st vars place true its) t) (action_of ms (trees vars) (work_view w (entries_view es)))) i

abbrev conditions_of : Footing → Around → Visit → Expressions
conditions_of f a v = all_expanded (trees f.vars) (append_expressions (conditions_after no_expressions (map (λ b. b.now) a.blocks.items)) (exprs_view v.station.now.task.now.when.items))

abbrev over_of : Setting → Visit → Option KindData
over_of st v = loop_kind (start_scope st (task_there v) (env_of v)) (task_there v).loop

module _ (st : Setting) (v : Visit) (f : Footing) (k : Option KindData) (same : f ≡ visit_footing st v) (over : k ≡ over_of st v) where
  pub started_fault : (a : Around) (u : Option Fault) → a ≡ v.station.now.around.value → u ≡ conditions_fault (item_on f k) (conditions_of f a v)
      → u ≡ conditions_fault (item_scope st (task_there v) (env_of v)) (task_there v).conditions
  started_fault a u round h =
      h ∙ ap (λ x. conditions_fault (item_on x k) (conditions_of x a v)) same
      ∙ ap (λ o. conditions_fault (item_on (visit_footing st v) o) (conditions_of (visit_footing st v) a v)) over
      ∙ ap (λ x. conditions_fault (item_on (visit_footing st v) (over_of st v)) (conditions_of (visit_footing st v) x v)) round

  pub started_taught : (a : Around) (t : Taught) → a ≡ v.station.now.around.value → scope_view (before_on f k) t ≡ narrow_each (item_on f k) (conditions_of f a v) true
      → scope_view (item_before st v) t ≡ action_scope st (task_there v) (env_of v)
  started_taught a t round h =
      let one = subst (λ x. scope_view (before_on x k) t ≡ narrow_each (item_on x k) (conditions_of x a v) true) same h in
      let two = subst (λ o. scope_view (before_on (visit_footing st v) o) t ≡ narrow_each (item_on (visit_footing st v) o) (conditions_of (visit_footing st v) a v) true) over one in
      subst (λ x. scope_view (before_on (visit_footing st v) (over_of st v)) t ≡ narrow_each (item_on (visit_footing st v) (over_of st v)) (conditions_of (visit_footing st v) x v) true) round two

  pub asked_there : (t : Taught) → scope_view (item_before st v) t ≡ action_scope st (task_there v) (env_of v) → scope_view (before_on f k) t ≡ action_scope st (task_there v) (env_of v)
  asked_there t taught =
      ap (λ x. scope_view (before_on x k) t) same ∙ ap (λ o. scope_view (before_on (visit_footing st v) o) t) over ∙ taught

  pub started_action : (t : Taught) (u : Option Fault) → scope_view (item_before st v) t ≡ action_scope st (task_there v) (env_of v)
      → ((ms : Registry) → Resolves ms v.station.now.task.now.work
      → u ≡ action_fault (scope_view (before_on f k) t) (action_of ms (trees f.vars) (work_view v.station.now.task.now.work (entries_view v.station.now.task.now.arguments.items))))
      → u ≡ action_fault (action_scope st (task_there v) (env_of v)) (task_there v).action
  started_action t u taught h =
      let s = v.station.now.task.now in
      let ms = lone_registry s.work in
      let w = work_view s.work (entries_view s.arguments.items) in
      h ms (lone_resolves s.work) ∙ ap (λ c. action_fault c (action_of ms (trees f.vars) w)) (asked_there t taught)
      ∙ ap (λ (x : Footing). action_fault (action_scope st (task_there v) (env_of v)) (action_of ms (trees x.vars) w)) same

  pub started_sets : (t : Taught) (a b : Bool) (x w : Sets) → scope_view (item_before st v) t ≡ action_scope st (task_there v) (env_of v) → a ≡ b → x ≡ w
      → w ≡ parts_set (scope_view (before_on f k) t) a (parts_expanded (trees f.vars) (entries_view v.station.now.task.now.arguments.items))
      → x ≡ parts_set (action_scope st (task_there v) (env_of v)) b (parts_expanded (trees (in_scope v.station.now.vars)) (entries_view v.station.now.task.now.arguments.items))
  started_sets t a b x w taught certain is h =
      let es = entries_view v.station.now.task.now.arguments.items in
      is ∙ h ∙ ap (λ c. parts_set c a (parts_expanded (trees f.vars) es)) (asked_there t taught)
      ∙ ap (λ (y : Footing). parts_set (action_scope st (task_there v) (env_of v)) a (parts_expanded (trees y.vars) es)) same
      ∙ ap (λ q. parts_set (action_scope st (task_there v) (env_of v)) q (parts_expanded (trees (in_scope v.station.now.vars)) es)) certain

-- where none is found before
unfound : (o : Option Unfit) → is_some o ≡ false → None ≡ option_map fault_view o
unfound None h = refl
unfound (Some x) h = untrue (sym h)

pub then_found : (before : Option Unfit) (a b u : Option Fault) → is_some before ≡ false → option_map fault_view before ≡ a → u ≡ b → u ≡ first a b
then_found before a b u none is h = h ∙ ap (λ x. first x b) (unfound before none ∙ is)

first-first : (f g h : Option Fault) → first (first f g) h ≡ first f (first g h)
first-first None g h = refl
first-first (Some x) g h = refl

-- the faults in their order, where those of the loop, the conditions and what is done are none
last-faults : (c a h f x n u : Option Fault) → None ≡ first c a → u ≡ first h (first f x) → first c (first a (first h (first f (first x n)))) ≡ first u n
last-faults c a h f x n u none is =
    sym (first-first c a (first h (first f (first x n)))) ∙ ap (λ y. first y (first h (first f (first x n)))) (sym none)
    ∙ ap (first h) (sym (first-first f x n)) ∙ sym (first-first h (first f x) n) ∙ ap (λ y. first y n) (sym is)

pub faults_in_order : (l c a h f x n u : Option Fault) → None ≡ l → None ≡ first c a → u ≡ first h (first f x) → first l (first c (first a (first h (first f (first x n))))) ≡ first u n
faults_in_order l c a h f x n u first_none none is = ap (λ y. first y (first c (first a (first h (first f (first x n)))))) (sym first_none) ∙ last-faults c a h f x n u none is

pub found_first : (l c a h f x n u : Option Fault) → None ≡ l → u ≡ first c a → is_some u ≡ true → first l (first c (first a (first h (first f (first x n))))) ≡ first u n
found_first l c a h f x n u first_none is some =
    ap (λ y. first y (first c (first a (first h (first f (first x n)))))) (sym first_none) ∙ sym (first-first c a (first h (first f (first x n))))
    ∙ ap (λ y. first y (first h (first f (first x n)))) (sym is) ∙ past u some where
      past : (u : Option Fault) → is_some u ≡ true → first u (first h (first f (first x n))) ≡ first u n
      past None s = untrue s
      past (Some y) s = refl

abbrev is_module : Work → Bool
is_module (Module m) = true
is_module w = false

-- what a module sets is so in each scope
module_facts : (t : Task) (w : Work) (f : Name → Option Expression) (ps : Parts) (c : Scope) (m : Work) → w ≡ m → is_module m ≡ true
    → facts_of t (action_of (lone_registry w) f (work_view w ps)) c ≡ action_sets c t (action_of (lone_registry w) f (work_view w ps))
module_facts t w f ps c m e is = subst (λ x. facts_of t (action_of (lone_registry x) f (work_view x ps)) c ≡ action_sets c t (action_of (lone_registry x) f (work_view x ps))) (sym e) (same m is) where
  same : (m : Work) → is_module m ≡ true → facts_of t (action_of (lone_registry m) f (work_view m ps)) c ≡ action_sets c t (action_of (lone_registry m) f (work_view m ps))
  same (Module k) is = refl
  same m is = untrue is

pub module_sets_there : (t : Task) (w : Work) (f : Name → Option Expression) (ps : Parts) (c : Scope) (k : Arc Known Global) (x y z : Sets) → w ≡ Module k → x ≡ y → y ≡ z
    → z ≡ facts_of t (action_of (lone_registry w) f (work_view w ps)) c → x ≡ action_sets c t (action_of (lone_registry w) f (work_view w ps))
module_sets_there t w f ps c k x y z e h i j = h ∙ i ∙ j ∙ module_facts t w f ps c (Module k) e refl
