-- A task where it stands in its play, and what is so of it on every host.
use Rattle.std.proofs.Common.{◌≡◌, ◌∙◌, [], ◌∷◌, Bool, true, false, not, ◌&&◌, ◌||◌, cond, bytes_eq, Option, Some, None, is_some, option_map, refl, sym, ap, ap₂}
use Rattle.pb_semantics.specs.Signature.{ModuleData}
use Rattle.pb_semantics.proofs.Bools.{untrue}
use Rattle.pb_semantics.proofs.Names.{own_name, same_name}
use Rattle.pb_language.specs.Book.{Registry}
use Rattle.pb_language.specs.Cases.{all_results, answered_cases, failing_cases, going_cases, is_certain_to_run, is_conditional, judged_cases, may_go_on_failed}
use Rattle.pb_language.specs.Expansion.{parts_expanded, trees}
use Rattle.pb_language.specs.Expression.{Expression, Name, Parts, no_parts}
use Rattle.pb_language.specs.Narrow.{results_of}
use Rattle.pb_language.specs.Plays.{action_of, append_parts, expanded_option, module_named, task_at, task_with}
use Rattle.pb_language.specs.Rules.{any_too_long}
use Rattle.pb_language.specs.Scope.{Scope}
use Rattle.pb_language.specs.Task.{Action, Task, call_of}
use Rattle.pb_language.specs.TaskForm.{module_at}
use Rattle.pb_kind.specs.KindView.{kind_view}
use Rattle.pb_syntax.specs.ExprView.{expr_view}
use Rattle.pb_sig.specs.ModuleView.{known_view}
use Rattle.pb_task.specs.Tasks.{Resolves, task_view, work_view}
use Rattle.pb_task.specs.declared.task.Work.{Work}
use Rattle.pb_task.specs.declared.task.Work.TheVariants.{Module, Debug, SetFact, Assert, Fail}
use Rattle.pb_template.specs.Entries.{entries_view}
use Rattle.pb_vars.specs.InScope.{in_scope}
use Rattle.pb_vars.specs.Same.{HaveSame}
use Rattle.pb_vars.proofs.Scopes.{same-trees}
use Rattle.pb_flow.specs.Nodes.{around_view}
use Rattle.pb_flow.specs.declared.graph.Around.{Around}
use Rattle.pb_judgement.specs.Ends.{Does, IsJudgedIn, case_kind}
use Rattle.pb_judgement.specs.declared.ends.Manner.{Manner}
use Rattle.pb_transfer.specs.Written.{sets_view}
use Rattle.pb_route.specs.Gathered.{module_sets, work_sets}
use Rattle.pb_route.specs.Station.{IsStation, facts_of, lone_registry, station_task}
use Rattle.pb_route.specs.declared.station.Station.{Station}

-- the module that is called is found in the registry that has it alone
pub lone_resolves : (w : Work) → Resolves (lone_registry w) w
lone_resolves (Module m) = let k = known_view m.value in ap (λ q. cond q (Some k) None) (own_name k.name)
lone_resolves Debug = tt
lone_resolves SetFact = tt
lone_resolves (Assert a) = tt
lone_resolves Fail = tt

abbrev manner : Bool → Bool → Bool → Bool → Manner
manner a b c d = record { may_skip = a; asks_failed = b; repeats = c; ignores = d }

pub same_manner : (a b c d e f g h : Bool) → a ≡ e → b ≡ f → c ≡ g → d ≡ h → manner a b c d ≡ manner e f g h
same_manner a b c d e f g h p q r s = ap (λ x. manner x b c d) p ∙ ap (λ x. manner e x c d) q ∙ ap (λ x. manner e f x d) r ∙ ap (manner e f g) s

-- the module of that name is the one that is found by it
turned : (n m : Name) → bytes_eq n m ≡ true → bytes_eq m n ≡ true
turned n m h = ap (λ k. bytes_eq m k) (same_name n m h) ∙ own_name m

found_step : (q r : Bool) (k m named : ModuleData) (rest : Option ModuleData) → (q ≡ true → r ≡ true) → (r ≡ true → q ≡ true) → (rest ≡ Some m → named ≡ m)
    → cond q (Some k) rest ≡ Some m → cond r k named ≡ m
found_step true true k m named rest x y there h = (cc)
found_step true false k m named rest x y there h = untrue (x refl)
found_step false true k m named rest x y there h = untrue (y refl)
found_step false false k m named rest x y there h = there h

module_found : (n : Name) (ms : Registry) (m : ModuleData) → module_at n ms ≡ Some m → module_named n ms ≡ m
module_found n [] m h = (cc)
module_found n (k ∷ ms) m h =
    found_step (bytes_eq k.name n) (bytes_eq n k.name) k m (module_named n ms) (module_at n ms) (turned k.name n) (turned n k.name) (module_found n ms m) h

-- so what is done is the same in each registry that has the module
action_same : (w : Work) (ms : Registry) (f : Name → Option Expression) (ps : Parts) → Resolves ms w → action_of (lone_registry w) f (work_view w ps) ≡ action_of ms f (work_view w ps)
action_same (Module m) ms f ps h =
    let k = known_view m.value in
    ap (λ (x : ModuleData). call_of x (parts_expanded f ps)) (module_found k.name (lone_registry (Module m)) k (lone_resolves (Module m)) ∙ sym (module_found k.name ms k h))
action_same Debug ms f ps h = refl
action_same SetFact ms f ps h = refl
action_same (Assert a) ms f ps h = refl
action_same Fail ms f ps h = refl

module _ (s : Station) (a : Around) (play : Parts) (round : s.around.value ≡ a) (same : HaveSame (in_scope s.vars) (append_parts (entries_view s.task.now.vars.items) (around_view [] play a).scope)) where
  -- the task among the values that are in scope
  pub station_here : station_task s ≡ task_at (around_view (lone_registry s.task.now.work) play a) s.place (task_view s.task.now)
  station_here =
      let ms = lone_registry s.task.now.work in
      let t = task_view s.task.now in
      ap (λ x. task_with (around_view ms no_parts x) s.place t (trees (in_scope s.vars))) round
      ∙ ap (task_with (around_view ms play a) s.place t) (same-trees (in_scope s.vars) (append_parts t.vars (around_view ms play a).scope) same)

  -- and in any registry that has the module
  pub station_among : (ms : Registry) → Resolves ms s.task.now.work → station_task s ≡ task_at (around_view ms play a) s.place (task_view s.task.now)
  station_among ms found =
      let t = task_view s.task.now in
      let f = trees (append_parts t.vars (around_view ms play a).scope) in
      station_here ∙ ap (λ (x : Action). record (task_with (around_view ms play a) s.place t f) { action = x }) (action_same s.task.now.work ms f (entries_view s.task.now.arguments.items) found)

-- what is set, of a module and of other work
facts_are : (t : Task) (w : Work) (f : Name → Option Expression) (ps : Parts) (b : Bool) (c : Scope) → b ≡ is_certain_to_run t && not (may_go_on_failed t)
    → work_sets w b ≡ facts_of t (action_of (lone_registry w) f (work_view w ps)) c
facts_are t (Module m) f ps b c h =
    let k = known_view m.value in
    ap (module_sets k) h ∙ sym (ap (λ (x : ModuleData). facts_of t (call_of x (parts_expanded f ps)) c) (module_found k.name (lone_registry (Module m)) k (lone_resolves (Module m))))
facts_are t Debug f ps b c h = refl
facts_are t SetFact f ps b c h = refl
facts_are t (Assert a) f ps b c h = refl
facts_are t Fail f ps b c h = refl

there_as : {A B : Type 0} (f : A → B) (o : Option A) → is_some o ≡ is_some (option_map f o)
there_as f None = refl
there_as f (Some x) = refl

expanded_there : (f : Name → Option Expression) (o : Option Expression) → is_some o ≡ is_some (expanded_option f o)
expanded_there f None = refl
expanded_there f (Some e) = refl

loop_there : (s : Station) → is_some s.task.now.loop_over ≡ is_some (station_task s).loop
loop_there s = there_as expr_view s.task.now.loop_over ∙ expanded_there (trees (in_scope s.vars)) (option_map expr_view s.task.now.loop_over)

module _ (s : Station) (t : Task) (m : Manner) (here : station_task s ≡ t) (does : Does s.task.now.work t) (judged : IsJudgedIn m t) where
  surely : (b : Bool) → b ≡ not m.may_skip && not (is_some s.task.now.loop_over) → b ≡ is_certain_to_run (station_task s)
  surely b h =
      let skips : is_conditional (station_task s).conditions ≡ m.may_skip = ap (λ (x : Task). is_conditional x.conditions) here ∙ judged.skipped in
      h ∙ ap₂ (λ x y. not x && not y) (sym skips) (loop_there s)

  goes_on : m.ignores || m.asks_failed ≡ may_go_on_failed (station_task s)
  goes_on =
      let ignores : (station_task s).ignores ≡ m.ignores = ap (λ (x : Task). x.ignores) here ∙ judged.ignores in
      let asks : is_some (station_task s).failed_when ≡ m.asks_failed = ap (λ (x : Task). is_some x.failed_when) here ∙ judged.failed in
      ap₂ (λ x y. x || y) (sym ignores) (sym asks)

  pub is_station : (b : Bool)
      → s.is_certain ≡ not m.may_skip && not (is_some s.task.now.loop_over)
      → b ≡ (not m.may_skip && not (is_some s.task.now.loop_over)) && not (m.ignores || m.asks_failed)
      → any_too_long (in_scope s.vars) (in_scope s.vars) ≡ false
      → option_map kind_view s.ends.going ≡ case_kind (going_cases t)
      → option_map kind_view s.ends.failing ≡ case_kind (failing_cases t)
      → kind_view s.ends.all ≡ results_of (all_results t)
      → kind_view s.own.answered ≡ results_of (answered_cases t.action)
      → kind_view s.own.judged ≡ results_of (judged_cases t.action t.failed_when)
      → sets_view s.facts.items ≡ work_sets s.task.now.work b
      → IsStation s
  is_station b certain facts_certain short going failing all answered ends facts = record {
    certain = surely s.is_certain certain;
    short = short;
    going = going ∙ ap (λ x. case_kind (going_cases x)) (sym here);
    failing = failing ∙ ap (λ x. case_kind (failing_cases x)) (sym here);
    all = all ∙ ap (λ x. results_of (all_results x)) (sym here);
    answered = answered ∙ ap (λ (x : Task). results_of (answered_cases x.action)) (sym here);
    judged = ends ∙ ap (λ (x : Task). results_of (judged_cases x.action x.failed_when)) (sym here);
    facts = λ c. facts ∙ facts_are (station_task s) s.task.now.work (trees (in_scope s.vars)) (entries_view s.task.now.arguments.items) b c
        (facts_certain ∙ ap₂ (λ x y. x && not y) (surely (not m.may_skip && not (is_some s.task.now.loop_over)) refl) goes_on);
  }
