-- In settings that are alike, a task whose texts read neither other hosts nor the host's name has the same faults, exits and writes.
use Rattle.std.proofs.Common.{◌≡◌, List, [], ◌∷◌, Bool, true, not, ◌&&◌, cond, Option, Some, None, codes, length, refl, sym, subst, ap, ◌∙◌}
use Rattle.pb_semantics.specs.Kind.{KindData, Slots, Cases, spot, slot_at, hosts, lists, texts, recs}
use Rattle.pb_semantics.specs.Below.{below}
use Rattle.pb_semantics.specs.Signature.{ParameterData}
use Rattle.pb_language.specs.Expression.{Name, Expression, Expressions, no_expressions, expression, Parts, no_parts, part}
use Rattle.pb_language.specs.Scope.{Scope, Later, with_slot}
use Rattle.pb_language.specs.Narrow.{narrow, results_of}
use Rattle.pb_language.specs.Fit.{malformed, unknown_handler, first, asks, is_any, is_boolean, is_text, is_list}
use Rattle.pb_language.specs.Notify.{all_notified, names_something}
use Rattle.pb_language.specs.Task.{Attempts, Action, call_of, debug, set_fact, assertion, failure_of, Task}
use Rattle.pb_language.specs.Cases.{sets, append_sets, parts_set, action_sets, is_certain_to_run, with_sets, with_register, registered_kind, going_cases, failing_cases, answered_cases, judged_cases, length_bound, item_kind}
use Rattle.pb_language.specs.Setting.{Setting, host_list, group_slots, with_failure_slot, named_slots, scope_at, start_scope, loop_kind, with_item, item_scope, action_scope, with_own_result, own_scope, give_scope, until_scope}
use Rattle.pb_language.specs.Judgement.{conditions_fault, keyword_fault, until_fault, loop_fault, parameter_kind, arguments_fault, text_fault, is_lawful, action_fault, task_fault, live_if, has_case, has_going, task_kind, task_sets, going_exit, failing_exit, register_writes, task_writes, loop_length}
use Rattle.pb_language.proofs.WithSlot.{at_with}
use Rattle.pb_walks.proofs.AloneFaults.{both}
use Rattle.pb_alike.specs.Alike.{SettingsAlike}
use Rattle.pb_alike.proofs.ReadsNeither.{Neither, EachNeither, PartsNeither, TextNeither, KeywordNeither, UntilNeither, ActionNeither, TaskNeither}
use Rattle.pb_alike.proofs.AlikeKinds.{SameSlots, ScopesAlike, same_with, kind_alike, narrow_alike, narrow_each_alike}
use Rattle.pb_alike.proofs.AlikeFaults.{asked_alike, fault_alike, fields_alike}

-- ---- in scopes that are alike

conditions_alike : (es : Expressions) (c d : Scope) → ScopesAlike c d → EachNeither es → conditions_fault c es ≡ conditions_fault d es
conditions_alike no_expressions c d a n = refl
conditions_alike (expression e es) c d a n =
    both first _ _ _ _ (fault_alike e c d a n.0) (both first _ _ _ _ (asked_alike is_boolean e c d a n.0) (conditions_alike es (narrow c e true) (narrow d e true) (narrow_alike e c d true a n.0) n.1))

keyword_alike : (o : Option Expressions) (c d : Scope) → ScopesAlike c d → KeywordNeither o → keyword_fault c o ≡ keyword_fault d o
keyword_alike None c d a n = refl
keyword_alike (Some es) c d a n = conditions_alike es c d a n

until_alike : (o : Option Attempts) (c d : Scope) → ScopesAlike c d → UntilNeither o → until_fault c o ≡ until_fault d o
until_alike None c d a n = refl
until_alike (Some x) c d a n = conditions_alike x.until c d a n

loop_alike : (o : Option Expression) (c d : Scope) → ScopesAlike c d → TextNeither o → loop_fault c o ≡ loop_fault d o
loop_alike None c d a n = refl
loop_alike (Some e) c d a n = both first _ _ _ _ (fault_alike e c d a n) (asked_alike is_list e c d a n)

loop_kind_alike : (o : Option Expression) (c d : Scope) → ScopesAlike c d → TextNeither o → loop_kind c o ≡ loop_kind d o
loop_kind_alike None c d a n = refl
loop_kind_alike (Some e) c d a n = ap (λ k. Some k) (kind_alike e c d a n)

arguments_alike : (qs : Parts) (ps : List ParameterData) (c d : Scope) → ScopesAlike c d → PartsNeither qs → arguments_fault c ps qs ≡ arguments_fault d ps qs
arguments_alike no_parts ps c d a n = refl
arguments_alike (part x e qs) ps c d a n =
    both first _ _ _ _ (both first _ _ _ _ (fault_alike e c d a n.0) (asked_alike (λ k. not (is_any k) && below k (parameter_kind x ps)) e c d a n.0)) (arguments_alike qs ps c d a n.1)

texts_alike : (o : Option Expression) (c d : Scope) → ScopesAlike c d → TextNeither o → text_fault c o ≡ text_fault d o
texts_alike None c d a n = refl
texts_alike (Some e) c d a n = both first _ _ _ _ (fault_alike e c d a n) (asked_alike is_text e c d a n)

actions_alike : (x : Action) (c d : Scope) → ScopesAlike c d → ActionNeither x → action_fault c x ≡ action_fault d x
actions_alike (call_of m ps) c d a n = ap (λ z. first (asks malformed (is_lawful m)) z) (arguments_alike ps m.params c d a n)
actions_alike (debug e) c d a n = both first _ _ _ _ (fault_alike e c d a n) (asked_alike (λ k. not (is_any k)) e c d a n)
actions_alike (set_fact ps) c d a n = fields_alike ps c d a n
actions_alike (assertion es o) c d a n = both first _ _ _ _ (texts_alike o c d a n.1) (conditions_alike es c d a n.0)
actions_alike (failure_of o) c d a n = texts_alike o c d a n

parts_set_alike : (ps : Parts) (b : Bool) (c d : Scope) → ScopesAlike c d → PartsNeither ps → parts_set c b ps ≡ parts_set d b ps
parts_set_alike no_parts b c d a n = refl
parts_set_alike (part x e ps) b c d a n = both (sets x b) _ _ _ _ (kind_alike e c d a n.0) (parts_set_alike ps b c d a n.1)

sets_alike : (x : Action) (t : Task) (c d : Scope) → ScopesAlike c d → ActionNeither x → action_sets c t x ≡ action_sets d t x
sets_alike (call_of m ps) t c d a n = refl
sets_alike (debug e) t c d a n = refl
sets_alike (set_fact ps) t c d a n = parts_set_alike ps (is_certain_to_run t) c d a n
sets_alike (assertion es o) t c d a n = refl
sets_alike (failure_of o) t c d a n = refl

-- ---- what is known in settings that are alike

-- with the host's name on top, whichever it is
name_apart : (h g : Name) (ss : Slots) → SameSlots (with_slot (codes "inventory_hostname") true (hosts (h ∷ [])) ss) (with_slot (codes "inventory_hostname") true (hosts (g ∷ [])) ss)
name_apart h g ss x m =
    at_with x (codes "inventory_hostname") true (hosts (h ∷ [])) ss ∙ ap (λ q. cond q (spot true (hosts (h ∷ []))) (slot_at x ss)) m
    ∙ sym (at_with x (codes "inventory_hostname") true (hosts (g ∷ [])) ss ∙ ap (λ q. cond q (spot true (hosts (g ∷ []))) (slot_at x ss)) m)

same_item : (o : Option KindData) (ss ts : Slots) → SameSlots ss ts → SameSlots (with_item o ss) (with_item o ts)
same_item None ss ts s = s
same_item (Some k) ss ts s = same_with (codes "item") true (item_kind k) ss ts s

same_result : (o : Option Name) (cs : Cases) (ss ts : Slots) → SameSlots ss ts → SameSlots (with_own_result o cs ss) (with_own_result o cs ts)
same_result None cs ss ts s = s
same_result (Some n) cs ss ts s = same_with n true (results_of cs) ss ts s

module _ (st su : Setting) (a : SettingsAlike st su) (t : Task) (env : Slots) where
  -- those that are always there, but for the name
  abbrev always : Setting → Slots
  always s = with_slot (codes "groups") true (recs (group_slots s.groups)) (with_slot (codes "group_names") true (lists texts (length s.memberships))
      (with_slot (codes "ansible_play_batch") true (host_list s.play_hosts) (with_failure_slot t.depth env)))

  always_same : always st ≡ always su
  always_same =
      ap (λ gs. with_slot (codes "groups") true (recs (group_slots gs)) (with_slot (codes "group_names") true (lists texts (length st.memberships)) (with_slot (codes "ansible_play_batch") true (host_list st.play_hosts) (with_failure_slot t.depth env)))) a.groups
      ∙ both (λ n hs. with_slot (codes "groups") true (recs (group_slots su.groups)) (with_slot (codes "group_names") true (lists texts n) (with_slot (codes "ansible_play_batch") true (host_list hs) (with_failure_slot t.depth env)))) _ _ _ _ a.memberships a.play_hosts

  pub named_alike : SameSlots (named_slots st t.depth env) (named_slots su t.depth env)
  named_alike x m =
      name_apart st.this su.this (always st) x m ∙ ap (λ ss. slot_at x (with_slot (codes "inventory_hostname") true (hosts (su.this ∷ [])) ss)) always_same

  scope_alike : (ls ms : List Later) (ss ts : Slots) → SameSlots ss ts → ScopesAlike (scope_at st ls t.place ss) (scope_at su ms t.place ts)
  scope_alike ls ms ss ts s = record { own = s; groups = a.groups; own_slots = refl; learned = refl; present = refl }

  start_alike : ScopesAlike (start_scope st t env) (start_scope su t env)
  start_alike = scope_alike st.laters su.laters (named_slots st t.depth env) (named_slots su t.depth env) named_alike

  -- the loop's expression need not be that of the task
  pub length_alike : (e : Expression) → Neither e → loop_length st t env (Some e) ≡ loop_length su t env (Some e)
  length_alike e n = ap length_bound (kind_alike e (start_scope st t env) (start_scope su t env) start_alike n)

  module _ (n : TaskNeither t) where
    loop_same : loop_kind (start_scope st t env) t.loop ≡ loop_kind (start_scope su t env) t.loop
    loop_same = loop_kind_alike t.loop (start_scope st t env) (start_scope su t env) start_alike n.loop

    looped_same : SameSlots (with_item (loop_kind (start_scope st t env) t.loop) (named_slots st t.depth env)) (with_item (loop_kind (start_scope su t env) t.loop) (named_slots su t.depth env))
    looped_same =
        subst (λ o. SameSlots (with_item (loop_kind (start_scope st t env) t.loop) (named_slots st t.depth env)) (with_item o (named_slots su t.depth env))) loop_same
        (same_item (loop_kind (start_scope st t env) t.loop) (named_slots st t.depth env) (named_slots su t.depth env) named_alike)

    item_alike : ScopesAlike (item_scope st t env) (item_scope su t env)
    item_alike = record { own = looped_same; groups = a.groups; own_slots = refl; learned = refl; present = refl }

    action_alike : ScopesAlike (action_scope st t env) (action_scope su t env)
    action_alike = narrow_each_alike t.conditions (item_scope st t env) (item_scope su t env) true item_alike n.conditions

    own_alike : (cs : Cases) → ScopesAlike (own_scope st t cs env) (own_scope su t cs env)
    own_alike cs = scope_alike [] [] _ _ (same_result t.register cs _ _ looped_same)

    pub fault_same : task_fault st t env ≡ task_fault su t env
    fault_same =
        let given = own_alike (answered_cases t.action) in
        both first _ _ _ _ (loop_alike t.loop (start_scope st t env) (start_scope su t env) start_alike n.loop)
        (both first _ _ _ _ (conditions_alike t.conditions (item_scope st t env) (item_scope su t env) item_alike n.conditions)
        (both first _ _ _ _ (actions_alike t.action (action_scope st t env) (action_scope su t env) action_alike n.action)
        (both first _ _ _ _ (keyword_alike t.changed_when (give_scope st t env) (give_scope su t env) given n.changed)
        (both first _ _ _ _ (keyword_alike t.failed_when (give_scope st t env) (give_scope su t env) given n.failed)
        (both first _ _ _ _ (until_alike t.attempts (until_scope st t env) (until_scope su t env) (own_alike (judged_cases t.action t.failed_when)) n.attempts)
        (ap (λ hs. asks unknown_handler (names_something (all_notified hs t.notifies))) a.handlers))))))

    kind_same : (cs : Cases) → task_kind st t env cs ≡ task_kind su t env cs
    kind_same cs = ap (λ o. registered_kind t o cs) loop_same

    sets_same : task_sets st t env ≡ task_sets su t env
    sets_same = sets_alike t.action t (action_scope st t env) (action_scope su t env) action_alike n.action

    pub going_same : going_exit st t env ≡ going_exit su t env
    going_same = both (λ s k. live_if (has_going t t.loop) (with_sets s (with_register t.register k env))) _ _ _ _ sets_same (kind_same (going_cases t))

    pub failing_same : failing_exit st t env ≡ failing_exit su t env
    failing_same = ap (λ k. live_if (has_case (failing_cases t)) (with_register t.register k env)) (kind_same (failing_cases t))

    pub writes_same : task_writes st t env ≡ task_writes su t env
    writes_same =
        both append_sets _ _ _ _ (ap (register_writes t.register (has_going t t.loop)) (kind_same (going_cases t)))
        (both append_sets _ _ _ _ (ap (register_writes t.register (has_case (failing_cases t))) (kind_same (failing_cases t))) sets_same)
