-- A task has the same fault in environments that are below each other.
use Rattle.std.proofs.Common.{◌≡◌, List, true, not, ◌&&◌, Option, Some, None, refl, sym, ap, ◌∙◌}
use Rattle.pb_semantics.specs.Kind.{KindData, Slots, recs}
use Rattle.pb_semantics.specs.Below.{below}
use Rattle.pb_semantics.specs.Well.{Well}
use Rattle.pb_semantics.specs.Signature.{ParameterData}
use Rattle.pb_semantics.proofs.Bools.{same_tests}
use Rattle.pb_semantics.proofs.Through.{through}
use Rattle.pb_language.specs.Expression.{Expression, Expressions, no_expressions, expression, Parts, no_parts, part}
use Rattle.pb_language.specs.Scope.{Scope}
use Rattle.pb_language.specs.Kinds.{kind_of}
use Rattle.pb_language.specs.Narrow.{narrow}
use Rattle.pb_language.specs.Fit.{wrong_kind, unknown_handler, malformed, first, asks, is_any, is_boolean, fault}
use Rattle.pb_language.specs.Notify.{all_notified, names_something}
use Rattle.pb_language.specs.Knows.{WellScope}
use Rattle.pb_language.specs.Task.{Attempts, Action, call_of, debug, set_fact, assertion, failure_of, Task}
use Rattle.pb_language.specs.Setting.{Setting, start_scope, item_scope, action_scope, give_scope, until_scope}
use Rattle.pb_language.specs.Judgement.{conditions_fault, keyword_fault, until_fault, loop_fault, parameter_kind, arguments_fault, text_fault, is_lawful, action_fault, task_fault, loop_length}
use Rattle.pb_language.specs.Ordered.{SlotsLe, ScopeLe, SettingLe}
use Rattle.pb_language.specs.Wells.{WellViews}
use Rattle.pb_language.specs.SameBelow.{SameKind}
use Rattle.pb_language.proofs.WellKinds.{kinds_are_well}
use Rattle.pb_language.proofs.Known.{well_narrow}
use Rattle.pb_language.proofs.After.{well_start, well_item_scope, well_action}
use Rattle.pb_language.proofs.NarrowUp.{narrow_up}
use Rattle.pb_language.proofs.ExitsUp.{starts_up, items_up, actions_up, gives_up, untils_up, well_give, well_until}
use Rattle.pb_language.proofs.TestsSame.{any_same, boolean_same, text_same, list_same, length_same}
use Rattle.pb_language.proofs.FaultsSame.{firsts, kinds_same, not_any, faults_same, fields_same}

below_same : (k m j : KindData) → Well k → Well m → SameKind k m → below k j ≡ below m j
below_same k m j w v s = same_tests (below k j) (below m j) (λ x. through m k j v s.1 x) (λ x. through k m j w s.0 x)

conditions_same : (es : Expressions) (c d : Scope) → WellScope c → WellScope d → ScopeLe c d → ScopeLe d c → conditions_fault c es ≡ conditions_fault d es
conditions_same no_expressions c d w v l m = refl
conditions_same (expression e es) c d w v l m =
    firsts (fault c e) (fault d e) _ _ (faults_same e c d w v l m) (firsts (asks wrong_kind (is_boolean (kind_of c e))) (asks wrong_kind (is_boolean (kind_of d e))) _ _
    (ap (asks wrong_kind) (boolean_same (kind_of c e) (kind_of d e) (kinds_same e c d w v l m)))
    (conditions_same es (narrow c e true) (narrow d e true) (well_narrow e c true w) (well_narrow e d true v) (narrow_up e c d true w v l) (narrow_up e d c true v w m)))

keyword_same : (o : Option Expressions) (c d : Scope) → WellScope c → WellScope d → ScopeLe c d → ScopeLe d c → keyword_fault c o ≡ keyword_fault d o
keyword_same None c d w v l m = refl
keyword_same (Some es) c d w v l m = conditions_same es c d w v l m

until_same : (o : Option Attempts) (c d : Scope) → WellScope c → WellScope d → ScopeLe c d → ScopeLe d c → until_fault c o ≡ until_fault d o
until_same None c d w v l m = refl
until_same (Some a) c d w v l m = conditions_same a.until c d w v l m

loop_same : (o : Option Expression) (c d : Scope) → WellScope c → WellScope d → ScopeLe c d → ScopeLe d c → loop_fault c o ≡ loop_fault d o
loop_same None c d w v l m = refl
loop_same (Some e) c d w v l m = firsts (fault c e) (fault d e) _ _ (faults_same e c d w v l m) (ap (asks wrong_kind) (list_same (kind_of c e) (kind_of d e) (kinds_same e c d w v l m)))

arguments_same : (qs : Parts) (ps : List ParameterData) (c d : Scope) → WellScope c → WellScope d → ScopeLe c d → ScopeLe d c → arguments_fault c ps qs ≡ arguments_fault d ps qs
arguments_same no_parts ps c d w v l m = refl
arguments_same (part n e qs) ps c d w v l m =
    let s = kinds_same e c d w v l m in
    let k = parameter_kind n ps in
    firsts (first (fault c e) _) (first (fault d e) _) _ _ (firsts (fault c e) (fault d e) _ _ (faults_same e c d w v l m)
    (ap (λ q. asks wrong_kind (not q && below (kind_of c e) k)) (any_same (kind_of c e) (kind_of d e) s)
    ∙ ap (λ q. asks wrong_kind (not (is_any (kind_of d e)) && q)) (below_same (kind_of c e) (kind_of d e) k (kinds_are_well c e w) (kinds_are_well d e v) s)))
    (arguments_same qs ps c d w v l m)

texts_same : (o : Option Expression) (c d : Scope) → WellScope c → WellScope d → ScopeLe c d → ScopeLe d c → text_fault c o ≡ text_fault d o
texts_same None c d w v l m = refl
texts_same (Some e) c d w v l m = firsts (fault c e) (fault d e) _ _ (faults_same e c d w v l m) (ap (asks wrong_kind) (text_same (kind_of c e) (kind_of d e) (kinds_same e c d w v l m)))

actions_same : (a : Action) (c d : Scope) → WellScope c → WellScope d → ScopeLe c d → ScopeLe d c → action_fault c a ≡ action_fault d a
actions_same (call_of x ps) c d w v l m = ap (λ z. first (asks malformed (is_lawful x)) z) (arguments_same ps x.params c d w v l m)
actions_same (debug e) c d w v l m = firsts (fault c e) (fault d e) _ _ (faults_same e c d w v l m) (not_any e c d w v l m)
actions_same (set_fact ps) c d w v l m = fields_same ps c d w v l m
actions_same (assertion es o) c d w v l m = firsts (text_fault c o) (text_fault d o) _ _ (texts_same o c d w v l m) (conditions_same es c d w v l m)
actions_same (failure_of o) c d w v l m = texts_same o c d w v l m

lengths_same : (o : Option Expression) (st su : Setting) (t : Task) (ss ts : Slots) → WellScope (start_scope st t ss) → WellScope (start_scope su t ts) → ScopeLe (start_scope st t ss) (start_scope su t ts) → ScopeLe (start_scope su t ts) (start_scope st t ss)
    → loop_length st t ss o ≡ loop_length su t ts o
lengths_same None st su t ss ts w v l m = refl
lengths_same (Some e) st su t ss ts w v l m = length_same (kind_of (start_scope st t ss) e) (kind_of (start_scope su t ts) e) (kinds_same e (start_scope st t ss) (start_scope su t ts) w v l m)

pub tasks_same : (st su : Setting) (t : Task) (ss ts : Slots) → WellViews st.views → WellViews su.views → Well (recs ss) → Well (recs ts) → SettingLe st su × SettingLe su st → SlotsLe ss ts × SlotsLe ts ss
    → (task_fault st t ss ≡ task_fault su t ts) × (loop_length st t ss t.loop ≡ loop_length su t ts t.loop)
tasks_same st su t ss ts a b w v p l =
    let start = loop_same t.loop (start_scope st t ss) (start_scope su t ts) (well_start st a t ss w) (well_start su b t ts v) (starts_up st su t ss ts a b w v p.0 l.0) (starts_up su st t ts ss b a v w p.1 l.1) in
    let item = conditions_same t.conditions (item_scope st t ss) (item_scope su t ts) (well_item_scope st a t ss w) (well_item_scope su b t ts v) (items_up st su t ss ts a b w v p.0 l.0) (items_up su st t ts ss b a v w p.1 l.1) in
    let action = actions_same t.action (action_scope st t ss) (action_scope su t ts) (well_action st a t ss w) (well_action su b t ts v) (actions_up st su t ss ts a b w v p.0 l.0) (actions_up su st t ts ss b a v w p.1 l.1) in
    let up = gives_up st su t ss ts a b w v p.0 l.0 in
    let back = gives_up su st t ts ss b a v w p.1 l.1 in
    let changed = keyword_same t.changed_when (give_scope st t ss) (give_scope su t ts) (well_give st a t ss w) (well_give su b t ts v) up back in
    let failed = keyword_same t.failed_when (give_scope st t ss) (give_scope su t ts) (well_give st a t ss w) (well_give su b t ts v) up back in
    let until_up = untils_up st su t ss ts a b w v p.0 l.0 in
    let until_back = untils_up su st t ts ss b a v w p.1 l.1 in
    let until = until_same t.attempts (until_scope st t ss) (until_scope su t ts) (well_until st a t ss w) (well_until su b t ts v) until_up until_back in
    let handlers = ap (λ z. asks unknown_handler (names_something (all_notified z.handlers t.notifies))) (sym p.0.same) in (
      firsts _ _ _ _ start (firsts _ _ _ _ item (firsts _ _ _ _ action (firsts _ _ _ _ changed (firsts _ _ _ _ failed (firsts _ _ _ _ until handlers))))),
      lengths_same t.loop st su t ss ts (well_start st a t ss w) (well_start su b t ts v) (starts_up st su t ss ts a b w v p.0 l.0) (starts_up su st t ts ss b a v w p.1 l.1),
    )
