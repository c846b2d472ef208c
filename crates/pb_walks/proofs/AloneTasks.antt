-- In a setting with other views and laters, a task whose texts read no other host has the same faults, exits and writes.
use Rattle.std.proofs.Common.{◌≡◌, List, [], Bool, true, false, not, ◌&&◌, ◌||◌, Option, Some, None, refl, ap, ◌∙◌}
use Rattle.pb_semantics.specs.Kind.{Slots, Cases}
use Rattle.pb_semantics.specs.Below.{below}
use Rattle.pb_semantics.specs.Signature.{ParameterData}
use Rattle.pb_semantics.proofs.Bools.{neither-left, neither-right}
use Rattle.pb_language.specs.Expression.{Expression, Expressions, no_expressions, expression, Parts, no_parts, part}
use Rattle.pb_language.specs.Scope.{Scope, View, Later}
use Rattle.pb_language.specs.Narrow.{narrow, narrow_each}
use Rattle.pb_language.specs.Fit.{malformed, first, asks, is_any, is_boolean, is_text, is_list}
use Rattle.pb_language.specs.OwnReads.{keyword_reads_others, until_reads_others}
use Rattle.pb_language.specs.Rules.{reads_others, any_reads_others, part_reads_others}
use Rattle.pb_language.specs.Task.{Attempts, Action, call_of, debug, set_fact, assertion, failure_of, Task}
use Rattle.pb_language.specs.Cases.{sets, append_sets, parts_set, action_sets, is_certain_to_run, with_sets, with_register, registered_kind, going_cases, failing_cases, answered_cases, judged_cases, length_bound}
use Rattle.pb_language.specs.Setting.{Setting, named_slots, scope_at, start_scope, loop_kind, with_item, item_scope, action_scope, with_own_result, own_scope, give_scope, until_scope}
use Rattle.pb_language.specs.Judgement.{conditions_fault, keyword_fault, until_fault, loop_fault, parameter_kind, arguments_fault, text_fault, is_lawful, action_fault, task_fault, live_if, has_case, has_going, task_kind, task_sets, going_exit, failing_exit, register_writes, task_writes, loop_length}
use Rattle.pb_walks.specs.Alone.{text_reads_others, action_reads_others, task_reads_others}
use Rattle.pb_walks.proofs.AloneKinds.{under, kind_alone, narrow_alone, narrow_each_alone}
use Rattle.pb_walks.proofs.AloneFaults.{both, three, asked_alone, fault_alone, fields_alone}

module _ (vs : List View) (ls : List Later) where
  conditions_alone : (es : Expressions) (c : Scope) → any_reads_others es ≡ false → conditions_fault (under vs ls c) es ≡ conditions_fault c es
  conditions_alone no_expressions c n = refl
  conditions_alone (expression e es) c n =
      let l = neither-left (reads_others e) (any_reads_others es) n in
      three _ _ _ _ _ _ (fault_alone vs ls e c l) (asked_alone vs ls (λ q. q) is_boolean e c l)
      (ap (λ d. conditions_fault d es) (narrow_alone vs ls e c true l) ∙ conditions_alone es (narrow c e true) (neither-right (reads_others e) (any_reads_others es) n))

  keyword_alone : (o : Option Expressions) (c : Scope) → keyword_reads_others o ≡ false → keyword_fault (under vs ls c) o ≡ keyword_fault c o
  keyword_alone None c n = refl
  keyword_alone (Some es) c n = conditions_alone es c n

  until_alone : (o : Option Attempts) (c : Scope) → until_reads_others o ≡ false → until_fault (under vs ls c) o ≡ until_fault c o
  until_alone None c n = refl
  until_alone (Some a) c n = conditions_alone a.until c n

  loop_alone : (o : Option Expression) (c : Scope) → text_reads_others o ≡ false → loop_fault (under vs ls c) o ≡ loop_fault c o
  loop_alone None c n = refl
  loop_alone (Some e) c n = both first _ _ _ _ (fault_alone vs ls e c n) (asked_alone vs ls (λ q. q) is_list e c n)

  loop_kind_alone : (o : Option Expression) (c : Scope) → text_reads_others o ≡ false → loop_kind (under vs ls c) o ≡ loop_kind c o
  loop_kind_alone None c n = refl
  loop_kind_alone (Some e) c n = ap (λ k. Some k) (kind_alone vs ls e c n)

  arguments_alone : (qs : Parts) (ps : List ParameterData) (c : Scope) → part_reads_others qs ≡ false → arguments_fault (under vs ls c) ps qs ≡ arguments_fault c ps qs
  arguments_alone no_parts ps c n = refl
  arguments_alone (part x e qs) ps c n =
      let l = neither-left (reads_others e) (part_reads_others qs) n in
      both first _ _ _ _ (both first _ _ _ _ (fault_alone vs ls e c l) (asked_alone vs ls (λ q. q) (λ k. not (is_any k) && below k (parameter_kind x ps)) e c l))
      (arguments_alone qs ps c (neither-right (reads_others e) (part_reads_others qs) n))

  texts_alone : (o : Option Expression) (c : Scope) → text_reads_others o ≡ false → text_fault (under vs ls c) o ≡ text_fault c o
  texts_alone None c n = refl
  texts_alone (Some e) c n = both first _ _ _ _ (fault_alone vs ls e c n) (asked_alone vs ls (λ q. q) is_text e c n)

  actions_alone : (a : Action) (c : Scope) → action_reads_others a ≡ false → action_fault (under vs ls c) a ≡ action_fault c a
  actions_alone (call_of x ps) c n = ap (λ z. first (asks malformed (is_lawful x)) z) (arguments_alone ps x.params c n)
  actions_alone (debug e) c n = both first _ _ _ _ (fault_alone vs ls e c n) (asked_alone vs ls not is_any e c n)
  actions_alone (set_fact ps) c n = fields_alone vs ls ps c n
  actions_alone (assertion es o) c n =
      both first _ _ _ _ (texts_alone o c (neither-right (any_reads_others es) (text_reads_others o) n)) (conditions_alone es c (neither-left (any_reads_others es) (text_reads_others o) n))
  actions_alone (failure_of o) c n = texts_alone o c n

  parts_set_alone : (ps : Parts) (b : Bool) (c : Scope) → part_reads_others ps ≡ false → parts_set (under vs ls c) b ps ≡ parts_set c b ps
  parts_set_alone no_parts b c n = refl
  parts_set_alone (part x e ps) b c n =
      both (sets x b) _ _ _ _ (kind_alone vs ls e c (neither-left (reads_others e) (part_reads_others ps) n)) (parts_set_alone ps b c (neither-right (reads_others e) (part_reads_others ps) n))

  sets_alone : (a : Action) (t : Task) (c : Scope) → action_reads_others a ≡ false → action_sets (under vs ls c) t a ≡ action_sets c t a
  sets_alone (call_of x ps) t c n = refl
  sets_alone (debug e) t c n = refl
  sets_alone (set_fact ps) t c n = parts_set_alone ps (is_certain_to_run t) c n
  sets_alone (assertion es o) t c n = refl
  sets_alone (failure_of o) t c n = refl

-- none of a task's texts reads others
pub record ReadsNone (t : Task) : Type 0 where
  pub loop : text_reads_others t.loop ≡ false
  pub conditions : any_reads_others t.conditions ≡ false
  pub action : action_reads_others t.action ≡ false
  pub changed : keyword_reads_others t.changed_when ≡ false
  pub failed : keyword_reads_others t.failed_when ≡ false
  pub attempts : until_reads_others t.attempts ≡ false

pub reads_none : (t : Task) → task_reads_others t ≡ false → ReadsNone t
reads_none t n =
    let last = keyword_reads_others t.failed_when || until_reads_others t.attempts in
    let fourth = keyword_reads_others t.changed_when || last in
    let third = action_reads_others t.action || fourth in
    let second = any_reads_others t.conditions || third in
    let n1 = neither-right (text_reads_others t.loop) second n in
    let n2 = neither-right (any_reads_others t.conditions) third n1 in
    let n3 = neither-right (action_reads_others t.action) fourth n2 in
    let n4 = neither-right (keyword_reads_others t.changed_when) last n3 in
    record {
      loop = neither-left (text_reads_others t.loop) second n;
      conditions = neither-left (any_reads_others t.conditions) third n1;
      action = neither-left (action_reads_others t.action) fourth n2;
      changed = neither-left (keyword_reads_others t.changed_when) last n3;
      failed = neither-left (keyword_reads_others t.failed_when) (until_reads_others t.attempts) n4;
      attempts = neither-right (keyword_reads_others t.failed_when) (until_reads_others t.attempts) n4;
    }

-- the setting with other views and laters
abbrev pub among : List View → List Later → Setting → Setting
among vs ls st = record st { views = vs; laters = ls }

module _ (vs : List View) (ls : List Later) (st : Setting) (t : Task) (env : Slots) (r : ReadsNone t) where
  kind_same : loop_kind (start_scope (among vs ls st) t env) t.loop ≡ loop_kind (start_scope st t env) t.loop
  kind_same = loop_kind_alone vs ls t.loop (start_scope st t env) r.loop

  item_same : item_scope (among vs ls st) t env ≡ under vs ls (item_scope st t env)
  item_same = ap (λ k. under vs ls (record (start_scope st t env) { own = with_item k (named_slots st t.depth env) })) kind_same

  action_same : action_scope (among vs ls st) t env ≡ under vs ls (action_scope st t env)
  action_same = ap (λ c. narrow_each c t.conditions true) item_same ∙ narrow_each_alone vs ls t.conditions (item_scope st t env) true r.conditions

  own_same : (cs : Cases) → own_scope (among vs ls st) t cs env ≡ under vs [] (own_scope st t cs env)
  own_same cs = ap (λ k. under vs [] (scope_at st [] t.place (with_own_result t.register cs (with_item k (named_slots st t.depth env))))) kind_same

  fault_same : task_fault (among vs ls st) t env ≡ task_fault st t env
  fault_same =
      let given = own_same (answered_cases t.action) in
      let own = give_scope st t env in
      let loop = loop_alone vs ls t.loop (start_scope st t env) r.loop in
      let conditions = ap (λ c. conditions_fault c t.conditions) item_same ∙ conditions_alone vs ls t.conditions (item_scope st t env) r.conditions in
      let action = ap (λ c. action_fault c t.action) action_same ∙ actions_alone vs ls t.action (action_scope st t env) r.action in
      let changed = ap (λ c. keyword_fault c t.changed_when) given ∙ keyword_alone vs [] t.changed_when own r.changed in
      let failed = ap (λ c. keyword_fault c t.failed_when) given ∙ keyword_alone vs [] t.failed_when own r.failed in
      let until = ap (λ c. until_fault c t.attempts) (own_same (judged_cases t.action t.failed_when)) ∙ until_alone vs [] t.attempts (until_scope st t env) r.attempts in
      both first _ _ _ _ loop (both first _ _ _ _ conditions (both first _ _ _ _ action (both first _ _ _ _ changed (both first _ _ _ _ failed (both first _ _ _ _ until refl)))))

  registered_same : (cs : Cases) → task_kind (among vs ls st) t env cs ≡ task_kind st t env cs
  registered_same cs = ap (λ o. registered_kind t o cs) kind_same

  sets_same : task_sets (among vs ls st) t env ≡ task_sets st t env
  sets_same = ap (λ c. action_sets c t t.action) action_same ∙ sets_alone vs ls t.action t (action_scope st t env) r.action

  going_same : going_exit (among vs ls st) t env ≡ going_exit st t env
  going_same = both (λ s k. live_if (has_going t t.loop) (with_sets s (with_register t.register k env))) _ _ _ _ sets_same (registered_same (going_cases t))

  failing_same : failing_exit (among vs ls st) t env ≡ failing_exit st t env
  failing_same = ap (λ k. live_if (has_case (failing_cases t)) (with_register t.register k env)) (registered_same (failing_cases t))

  writes_same : task_writes (among vs ls st) t env ≡ task_writes st t env
  writes_same =
      both append_sets _ _ _ _ (ap (register_writes t.register (has_going t t.loop)) (registered_same (going_cases t)))
      (both append_sets _ _ _ _ (ap (register_writes t.register (has_case (failing_cases t))) (registered_same (failing_cases t))) sets_same)

module _ (vs : List View) (ls : List Later) (st : Setting) (t : Task) (env : Slots) where
  pub fault_among : task_reads_others t ≡ false → task_fault (among vs ls st) t env ≡ task_fault st t env
  fault_among n = fault_same vs ls st t env (reads_none t n)

  pub going_among : task_reads_others t ≡ false → going_exit (among vs ls st) t env ≡ going_exit st t env
  going_among n = going_same vs ls st t env (reads_none t n)

  pub failing_among : task_reads_others t ≡ false → failing_exit (among vs ls st) t env ≡ failing_exit st t env
  failing_among n = failing_same vs ls st t env (reads_none t n)

  pub writes_among : task_reads_others t ≡ false → task_writes (among vs ls st) t env ≡ task_writes st t env
  writes_among n = writes_same vs ls st t env (reads_none t n)

  -- the loop's expression need not be that of the task
  pub length_among : (e : Expression) → reads_others e ≡ false → loop_length (among vs ls st) t env (Some e) ≡ loop_length st t env (Some e)
  length_among e n = ap length_bound (kind_alone vs ls e (start_scope st t env) n)
