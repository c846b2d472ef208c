-- In a setting with another table that says the same of what is read, a task has the same faults, exits and writes.
use Rattle.std.proofs.Common.{◌≡◌, List, [], Bool, true, false, not, ◌&&◌, ◌||◌, Option, Some, None, refl, ap, ◌∙◌}
use Rattle.pb_semantics.specs.Kind.{Slots, Cases}
use Rattle.pb_semantics.specs.Below.{below}
use Rattle.pb_semantics.specs.Signature.{ParameterData}
use Rattle.pb_semantics.proofs.Bools.{neither-left, neither-right}
use Rattle.pb_language.specs.Expression.{Expression, Expressions, no_expressions, expression, Parts, no_parts, part, Root}
use Rattle.pb_language.specs.Scope.{Scope, View}
use Rattle.pb_language.specs.Narrow.{narrow, narrow_each}
use Rattle.pb_language.specs.Fit.{malformed, first, asks, is_any, is_boolean, is_text, is_list}
use Rattle.pb_language.specs.Task.{Attempts, Action, call_of, debug, set_fact, assertion, failure_of, Task}
use Rattle.pb_language.specs.Cases.{sets, append_sets, parts_set, action_sets, is_certain_to_run, with_sets, with_register, registered_kind, going_cases, failing_cases, answered_cases, judged_cases, length_bound}
use Rattle.pb_language.specs.Setting.{Setting, named_slots, scope_at, start_scope, loop_kind, with_item, item_scope, action_scope, with_own_result, own_scope, give_scope, until_scope}
use Rattle.pb_language.specs.Judgement.{conditions_fault, keyword_fault, until_fault, loop_fault, parameter_kind, arguments_fault, text_fault, is_lawful, action_fault, task_fault, live_if, has_case, has_going, task_kind, task_sets, going_exit, failing_exit, register_writes, task_writes, loop_length}
use Rattle.pb_walks.proofs.AloneFaults.{both, three}
use Rattle.pb_others.specs.Rooted.{has_root, any_has_root, part_has_root, text_has_root, keyword_has_root, until_has_root, action_has_root, task_has_root}
use Rattle.pb_others.proofs.ThereSpots.{under, SameBut, narrowed, each_narrowed}
use Rattle.pb_others.proofs.ThereKinds.{kind_there, narrow_there, narrow_each_there}
use Rattle.pb_others.proofs.ThereFaults.{asked_there, fault_there, fields_there}

module _ (q : Root → Bool) (vs : List View) where
  conditions_there : (es : Expressions) (c : Scope) → any_has_root q es ≡ false → SameBut q vs c.table → conditions_fault (under vs c) es ≡ conditions_fault c es
  conditions_there no_expressions c n s = refl
  conditions_there (expression e es) c n s =
      let l = neither-left (has_root q e) (any_has_root q es) n in
      three _ _ _ _ _ _ (fault_there q vs e c l s) (asked_there q vs (λ z. z) is_boolean e c l s)
      (ap (λ d. conditions_fault d es) (narrow_there q vs e c true l s) ∙ conditions_there es (narrow c e true) (neither-right (has_root q e) (any_has_root q es) n) (narrowed q vs e c true s))

  keyword_there : (o : Option Expressions) (c : Scope) → keyword_has_root q o ≡ false → SameBut q vs c.table → keyword_fault (under vs c) o ≡ keyword_fault c o
  keyword_there None c n s = refl
  keyword_there (Some es) c n s = conditions_there es c n s

  until_there : (o : Option Attempts) (c : Scope) → until_has_root q o ≡ false → SameBut q vs c.table → until_fault (under vs c) o ≡ until_fault c o
  until_there None c n s = refl
  until_there (Some a) c n s = conditions_there a.until c n s

  loop_there : (o : Option Expression) (c : Scope) → text_has_root q o ≡ false → SameBut q vs c.table → loop_fault (under vs c) o ≡ loop_fault c o
  loop_there None c n s = refl
  loop_there (Some e) c n s = both first _ _ _ _ (fault_there q vs e c n s) (asked_there q vs (λ z. z) is_list e c n s)

  loop_kind_there : (o : Option Expression) (c : Scope) → text_has_root q o ≡ false → SameBut q vs c.table → loop_kind (under vs c) o ≡ loop_kind c o
  loop_kind_there None c n s = refl
  loop_kind_there (Some e) c n s = ap (λ k. Some k) (kind_there q vs e c n s)

  arguments_there : (qs : Parts) (ps : List ParameterData) (c : Scope) → part_has_root q qs ≡ false → SameBut q vs c.table → arguments_fault (under vs c) ps qs ≡ arguments_fault c ps qs
  arguments_there no_parts ps c n s = refl
  arguments_there (part x e qs) ps c n s =
      let l = neither-left (has_root q e) (part_has_root q qs) n in
      both first _ _ _ _ (both first _ _ _ _ (fault_there q vs e c l s) (asked_there q vs (λ z. z) (λ k. not (is_any k) && below k (parameter_kind x ps)) e c l s))
      (arguments_there qs ps c (neither-right (has_root q e) (part_has_root q qs) n) s)

  texts_there : (o : Option Expression) (c : Scope) → text_has_root q o ≡ false → SameBut q vs c.table → text_fault (under vs c) o ≡ text_fault c o
  texts_there None c n s = refl
  texts_there (Some e) c n s = both first _ _ _ _ (fault_there q vs e c n s) (asked_there q vs (λ z. z) is_text e c n s)

  actions_there : (a : Action) (c : Scope) → action_has_root q a ≡ false → SameBut q vs c.table → action_fault (under vs c) a ≡ action_fault c a
  actions_there (call_of x ps) c n s = ap (λ z. first (asks malformed (is_lawful x)) z) (arguments_there ps x.params c n s)
  actions_there (debug e) c n s = both first _ _ _ _ (fault_there q vs e c n s) (asked_there q vs not is_any e c n s)
  actions_there (set_fact ps) c n s = fields_there q vs ps c n s
  actions_there (assertion es o) c n s =
      both first _ _ _ _ (texts_there o c (neither-right (any_has_root q es) (text_has_root q o) n) s) (conditions_there es c (neither-left (any_has_root q es) (text_has_root q o) n) s)
  actions_there (failure_of o) c n s = texts_there o c n s

  parts_set_there : (ps : Parts) (b : Bool) (c : Scope) → part_has_root q ps ≡ false → SameBut q vs c.table → parts_set (under vs c) b ps ≡ parts_set c b ps
  parts_set_there no_parts b c n s = refl
  parts_set_there (part x e ps) b c n s =
      both (sets x b) _ _ _ _ (kind_there q vs e c (neither-left (has_root q e) (part_has_root q ps) n) s) (parts_set_there ps b c (neither-right (has_root q e) (part_has_root q ps) n) s)

  sets_there : (a : Action) (t : Task) (c : Scope) → action_has_root q a ≡ false → SameBut q vs c.table → action_sets (under vs c) t a ≡ action_sets c t a
  sets_there (call_of x ps) t c n s = refl
  sets_there (debug e) t c n s = refl
  sets_there (set_fact ps) t c n s = parts_set_there ps (is_certain_to_run t) c n s
  sets_there (assertion es o) t c n s = refl
  sets_there (failure_of o) t c n s = refl

-- none of a task's texts has such a root
pub record HasNone (q : Root → Bool) (t : Task) : Type 0 where
  pub loop : text_has_root q t.loop ≡ false
  pub conditions : any_has_root q t.conditions ≡ false
  pub action : action_has_root q t.action ≡ false
  pub changed : keyword_has_root q t.changed_when ≡ false
  pub failed : keyword_has_root q t.failed_when ≡ false
  pub attempts : until_has_root q t.attempts ≡ false

pub has_none : (q : Root → Bool) (t : Task) → task_has_root q t ≡ false → HasNone q t
has_none q t n =
    let last = keyword_has_root q t.failed_when || until_has_root q t.attempts in
    let fourth = keyword_has_root q t.changed_when || last in
    let third = action_has_root q t.action || fourth in
    let second = any_has_root q t.conditions || third in
    let n1 = neither-right (text_has_root q t.loop) second n in
    let n2 = neither-right (any_has_root q t.conditions) third n1 in
    let n3 = neither-right (action_has_root q t.action) fourth n2 in
    let n4 = neither-right (keyword_has_root q t.changed_when) last n3 in
    record {
      loop = neither-left (text_has_root q t.loop) second n;
      conditions = neither-left (any_has_root q t.conditions) third n1;
      action = neither-left (action_has_root q t.action) fourth n2;
      changed = neither-left (keyword_has_root q t.changed_when) last n3;
      failed = neither-left (keyword_has_root q t.failed_when) (until_has_root q t.attempts) n4;
      attempts = neither-right (keyword_has_root q t.failed_when) (until_has_root q t.attempts) n4;
    }

-- the setting with another table
abbrev pub among : List View → Setting → Setting
among vs st = record st { views = vs }

module _ (q : Root → Bool) (vs : List View) (st : Setting) (t : Task) (env : Slots) (s : SameBut q vs st.views) (r : HasNone q t) where
  kind_same : loop_kind (start_scope (among vs st) t env) t.loop ≡ loop_kind (start_scope st t env) t.loop
  kind_same = loop_kind_there q vs t.loop (start_scope st t env) r.loop s

  item_same : item_scope (among vs st) t env ≡ under vs (item_scope st t env)
  item_same = ap (λ k. under vs (record (start_scope st t env) { own = with_item k (named_slots st t.depth env) })) kind_same

  action_same : action_scope (among vs st) t env ≡ under vs (action_scope st t env)
  action_same = ap (λ c. narrow_each c t.conditions true) item_same ∙ narrow_each_there q vs t.conditions (item_scope st t env) true r.conditions s

  -- its table is the setting's
  acted : SameBut q vs (action_scope st t env).table
  acted = each_narrowed q vs t.conditions (item_scope st t env) true s

  own_same : (cs : Cases) → own_scope (among vs st) t cs env ≡ under vs (own_scope st t cs env)
  own_same cs = ap (λ k. under vs (scope_at st [] t.place (with_own_result t.register cs (with_item k (named_slots st t.depth env))))) kind_same

  fault_same : task_fault (among vs st) t env ≡ task_fault st t env
  fault_same =
      let given = own_same (answered_cases t.action) in
      let own = give_scope st t env in
      let loop = loop_there q vs t.loop (start_scope st t env) r.loop s in
      let conditions = ap (λ c. conditions_fault c t.conditions) item_same ∙ conditions_there q vs t.conditions (item_scope st t env) r.conditions s in
      let action = ap (λ c. action_fault c t.action) action_same ∙ actions_there q vs t.action (action_scope st t env) r.action acted in
      let changed = ap (λ c. keyword_fault c t.changed_when) given ∙ keyword_there q vs t.changed_when own r.changed s in
      let failed = ap (λ c. keyword_fault c t.failed_when) given ∙ keyword_there q vs t.failed_when own r.failed s in
      let until = ap (λ c. until_fault c t.attempts) (own_same (judged_cases t.action t.failed_when)) ∙ until_there q vs t.attempts (until_scope st t env) r.attempts s in
      both first _ _ _ _ loop (both first _ _ _ _ conditions (both first _ _ _ _ action (both first _ _ _ _ changed (both first _ _ _ _ failed (both first _ _ _ _ until refl)))))

  registered_same : (cs : Cases) → task_kind (among vs st) t env cs ≡ task_kind st t env cs
  registered_same cs = ap (λ o. registered_kind t o cs) kind_same

  sets_same : task_sets (among vs st) t env ≡ task_sets st t env
  sets_same = ap (λ c. action_sets c t t.action) action_same ∙ sets_there q vs t.action t (action_scope st t env) r.action acted

  going_same : going_exit (among vs st) t env ≡ going_exit st t env
  going_same = both (λ ss k. live_if (has_going t t.loop) (with_sets ss (with_register t.register k env))) _ _ _ _ sets_same (registered_same (going_cases t))

  failing_same : failing_exit (among vs st) t env ≡ failing_exit st t env
  failing_same = ap (λ k. live_if (has_case (failing_cases t)) (with_register t.register k env)) (registered_same (failing_cases t))

  writes_same : task_writes (among vs st) t env ≡ task_writes st t env
  writes_same =
      both append_sets _ _ _ _ (ap (register_writes t.register (has_going t t.loop)) (registered_same (going_cases t)))
      (both append_sets _ _ _ _ (ap (register_writes t.register (has_case (failing_cases t))) (registered_same (failing_cases t))) sets_same)

module _ (q : Root → Bool) (vs : List View) (st : Setting) (t : Task) (env : Slots) (s : SameBut q vs st.views) where
  pub fault_among : task_has_root q t ≡ false → task_fault (among vs st) t env ≡ task_fault st t env
  fault_among n = fault_same q vs st t env s (has_none q t n)

  pub going_among : task_has_root q t ≡ false → going_exit (among vs st) t env ≡ going_exit st t env
  going_among n = going_same q vs st t env s (has_none q t n)

  pub failing_among : task_has_root q t ≡ false → failing_exit (among vs st) t env ≡ failing_exit st t env
  failing_among n = failing_same q vs st t env s (has_none q t n)

  pub writes_among : task_has_root q t ≡ false → task_writes (among vs st) t env ≡ task_writes st t env
  writes_among n = writes_same q vs st t env s (has_none q t n)

  -- the loop's expression need not be that of the task
  pub length_among : (e : Expression) → has_root q e ≡ false → loop_length (among vs st) t env (Some e) ≡ loop_length st t env (Some e)
  length_among e n = ap length_bound (kind_there q vs e (start_scope st t env) n s)
