-- What is made of a task's answers: each item's result is one of the task's, with its final statuses.
use Rattle.std.proofs.Common.{◌≡◌, ℕ, suc, List, [], ◌∷◌, Bool, true, false, not, ◌&&◌, ◌||◌, ◌⊎◌, inl, inr, ⊎_elim, cond, Option, Some, None, is_some, length, codes, refl, sym, ap, subst, ◌∙◌, arith}
use Rattle.pb_semantics.specs.Data.{Data, Fields, boolean, rec, field_value, put_field}
use Rattle.pb_semantics.specs.Kind.{KindData, never, Slots, Cases, Shape, booleans, recs, no_slots, no_cases, one, slot_at, ok_shape, failure_shape, skipped_shape, is_skipped}
use Rattle.pb_semantics.specs.Keeps.{keeps, cases_kept, flag_is, spot_ok, Models}
use Rattle.pb_semantics.specs.Admission.{failed_of, changed_fields, ended, judged, admission}
use Rattle.pb_semantics.specs.Project.{projected}
use Rattle.pb_semantics.specs.Signature.{ModuleData, is_certain_boolean}
use Rattle.pb_semantics.specs.Well.{Well, WellCases}
use Rattle.pb_semantics.proofs.Bools.{untrue, and-left, and-right, and-both, or-left}
use Rattle.pb_semantics.proofs.Names.{own_flag}
use Rattle.pb_semantics.proofs.Projected.{projected_keeps}
use Rattle.pb_semantics.proofs.Kept.{nothing_keeps_never}
use Rattle.pb_language.specs.Expression.{Name, Expression, Expressions, no_expressions, expression, Parts}
use Rattle.pb_language.specs.World.{World}
use Rattle.pb_language.specs.Evaluation.{Outcome, value, then_go, and_then, eval, eval_all}
use Rattle.pb_language.specs.Scope.{Scope, Later, with_slot}
use Rattle.pb_language.specs.Kinds.{kind_of}
use Rattle.pb_language.specs.Narrow.{narrow, results_of}
use Rattle.pb_language.specs.Fit.{wrong_kind, malformed, unknown_handler, first, asks, is_boolean, Fault, fault}
use Rattle.pb_language.specs.Knows.{Knows}
use Rattle.pb_language.specs.Notify.{all_notified, names_something}
use Rattle.pb_language.specs.Task.{Action, call_of, debug, set_fact, assertion, failure_of, Attempts, Task}
use Rattle.pb_language.specs.Cases.{slots_of, shape_slots, is_lawful_shape, are_plain, ended_kind, changed_slots, message_slots, ok_case, failure_case, answered_cases, judged_cases, ended_cases, skipped_slots, action_name, is_conditional, skipped_cases, all_results, item_kind, Sets, no_sets, is_setup, may_go_on_failed, is_certain_to_run, action_sets, gathered}
use Rattle.pb_language.specs.Setting.{Setting, named_slots, scope_at, start_scope, loop_kind, with_item, item_scope, action_scope, with_own_result, own_scope, give_scope, until_scope, with_local}
use Rattle.pb_language.specs.Judgement.{conditions_fault, keyword_fault, until_fault, loop_fault, arguments_fault, is_lawful, action_fault, task_fault, task_sets}
use Rattle.pb_language.specs.Start.{Changes, no_changes, Entry, skips, calls, acts, Pass}
use Rattle.pb_language.specs.Give.{Answer, object, unreachable, Own, Admitted, admitted, breached, unreached, with_own, facts_of, set_by_answer, own_of, admit_answer, is_failure, acted, skipped_own, admit_entry, admit_passes, Ended, Results, results_are, no_results, with_statuses, ended_with, keyword_of, with_own_field, result_world, own_world, judged_world, until_of, with_status, with_ended, end_own, end_all, last_attempts}
use Rattle.pb_language.proofs.WithSlot.{at_with, models_written, record_models}
use Rattle.pb_language.proofs.WellKinds.{well_slot}
use Rattle.pb_language.proofs.Fits.{fit_has_value, no_first, no_second, not_asked}
use Rattle.pb_language.proofs.Tests.{test_teaches}
use Rattle.pb_language.proofs.Claims.{Around, Follows, IsCall, ItemFine, EntryFine, AllPasses}
use Rattle.pb_language.proofs.After.{well_scope, shape_well, well_answered_cases, well_judged_cases, well_own_result, well_own_item}
use Rattle.pb_language.proofs.GivenFields.{kept_put_with, ended_fields, failed_field, Ends, ends_kind, EndsEach, ends_each_either, still_kept, last_kept, ends_either, ends_own, kept_left, kept_right}
use Rattle.pb_language.proofs.GivenSets.{Uncertain, uncertain_run, uncertain_going, gathered_follows}

-- the laws of a module
abbrev Lawful : Action → Type 0
Lawful (call_of m ps) = is_lawful m ≡ true
Lawful a = Unit {0}

lawful_action : (a : Action) (c : Scope) → action_fault c a ≡ None → Lawful a
lawful_action (call_of m ps) c h = not_asked malformed (is_lawful m) (no_first (asks malformed (is_lawful m)) (arguments_fault c m.params ps) h)
lawful_action (debug e) c h = tt
lawful_action (set_fact ps) c h = tt
lawful_action (assertion es o) c h = tt
lawful_action (failure_of o) c h = tt

lawful_changed : (q : Bool) (k : KindData) → is_lawful_shape k ≡ q → q ≡ true → is_certain_boolean (slot_at (codes "changed") (cond q (slots_of k) no_slots)) ≡ true
lawful_changed true (recs ss) e h = and-left (is_certain_boolean (slot_at (codes "changed") ss)) _ (and-right (are_plain ss) _ e)
lawful_changed true k e h = untrue e
lawful_changed false k e h = untrue h

lawful_record : (q : Bool) (k : KindData) → is_lawful_shape k ≡ q → q ≡ true → k ≡ recs (cond q (slots_of k) no_slots)
lawful_record true (recs ss) e h = refl
lawful_record true k e h = untrue e
lawful_record false k e h = untrue h

ends_shape : (k : KindData) → is_lawful_shape k ≡ true → Ends (ended_kind (shape_slots k))
ends_shape k h = ends_kind (shape_slots k) (shape_well k).0 (lawful_changed (is_lawful_shape k) k refl h)

ends_answered : (a : Action) → Lawful a → EndsEach (answered_cases a)
ends_answered (call_of m ps) h =
    (refl, ends_shape m.ok (and-left (is_lawful_shape m.ok) (is_lawful_shape m.failure) h), (refl, ends_shape m.failure (and-right (is_lawful_shape m.ok) (is_lawful_shape m.failure) h), tt))
ends_answered (debug e) h = (refl, ends_kind changed_slots refl refl, tt)
ends_answered (set_fact ps) h = (refl, ends_kind changed_slots refl refl, tt)
ends_answered (assertion es o) h = (refl, ends_kind message_slots refl refl, (refl, ends_kind message_slots refl refl, tt))
ends_answered (failure_of o) h = (refl, ends_kind message_slots refl refl, tt)

-- conditions that are fit are true or false
pub a_boolean : (d : Data) (k : KindData) → keeps d k ≡ true → is_boolean k ≡ true → (b : Bool) × (d ≡ boolean b)
a_boolean d never h i = untrue (nothing_keeps_never d h)
a_boolean (boolean b) booleans h i = (b, refl)
a_boolean d booleans h i = untrue h
a_boolean d k h i = untrue i

decided : (c : Bool) (o : Outcome) → (c ≡ true → (b : Bool) × (o ≡ value (boolean b))) → (b : Bool) × (and_then (boolean c) o ≡ value (boolean b))
decided true o f = let x = f refl in (x.0, rw x.1 refl)
decided false o f = (false, refl)

pub conditions_decided : (es : Expressions) (w : World) (c : Scope) → Knows w c → conditions_fault c es ≡ None → (b : Bool) × (eval_all w es ≡ value (boolean b))
conditions_decided no_expressions w c m h = (true, refl)
conditions_decided (expression e es) w c m h =
    let later = conditions_fault (narrow c e true) es in
    let x = fit_has_value w c e m (no_first (fault c e) (first (asks wrong_kind (is_boolean (kind_of c e))) later) h) in
    let rest = no_second (fault c e) (first (asks wrong_kind (is_boolean (kind_of c e))) later) h in
    let y = a_boolean x.0 (kind_of c e) x.2 (not_asked wrong_kind (is_boolean (kind_of c e)) (no_first (asks wrong_kind (is_boolean (kind_of c e))) later rest)) in
    let there : eval w e ≡ value (boolean y.0) = x.1 ∙ ap (λ d. value d) y.1 in
    let z = decided y.0 (eval_all w es) (λ i. conditions_decided es w (narrow c e true) (test_teaches w c e true m (there ∙ ap (λ b. value (boolean b)) i)) (no_second (asks wrong_kind (is_boolean (kind_of c e))) later rest)) in
    (z.0, ap (λ o. then_go o (λ d. and_then d (eval_all w es))) there ∙ z.1)

keyword_decided : (o : Option Expressions) (w : World) (c : Scope) (b : Bool) → Knows w c → keyword_fault c o ≡ None → (f : Bool) × (keyword_of w o b ≡ value (boolean f)) × (o ≡ None → f ≡ b)
keyword_decided None w c b m h = (b, refl, λ x. refl)
keyword_decided (Some es) w c b m h = let x = conditions_decided es w c m h in (x.0, x.1, λ y. absurd (cc))

until_decided : (o : Option Attempts) (w : World) (c : Scope) → Knows w c → until_fault c o ≡ None → (u : Bool) × (until_of w o ≡ value (boolean u)) × (o ≡ None → u ≡ true)
until_decided None w c m h = (true, refl, λ x. refl)
until_decided (Some a) w c m h = let x = conditions_decided a.until w c m h in (x.0, x.1, λ y. absurd (cc))

-- a world that is as it is known before any test
pub knows_at : (w : World) (st : Setting) (laters : List Later) (place : ℕ) (own : Slots) → Around w st laters place → Well (recs own) → Models w.mine own → Knows w (scope_at st laters place own)
knows_at w st laters place own r v m =
    record {
      well = well_scope st laters place own r.wells v;
      this = r.this;
      groups = r.groups;
      own = m;
      table = r.views;
      own_slots = λ x a k h. absurd (cc);
      views = λ g x a k h. absurd (cc);
      learned = λ n e k d h i. absurd (cc);
      present = λ p ns h. untrue h;
      active = λ g h. untrue h;
      item_slots = λ g h x a k i. absurd (cc);
      item_active = λ h. untrue h;
      later = r.later;
    }

own_models : (r : Option Name) (fs vars : Fields) (cs : Cases) (env : Slots) → Models vars env → cases_kept fs cs ≡ true → Models (with_own_field r (rec fs) vars) (with_own_result r cs env)
own_models None fs vars cs env m h = m
own_models (Some n) fs vars cs env m h = models_written n (rec fs) vars true (results_of cs) env m h

-- the result of an item as it was admitted, of this action with these sets
pub record ResultFine (a : Action) (s : Sets) (o : Own) : Type 0 where
  pub kept : cases_kept o.fields (answered_cases a) ≡ true
  pub skipped : is_skipped o.shape ≡ true → flag_is true (field_value (codes "failed") o.fields) ≡ false
  pub sets : Follows o.sets s ⊎ ((o.sets ≡ no_changes) × (Uncertain s ⊎ ((field_value (codes "failed") o.fields ≡ Some (boolean true)) × IsCall a)))

admitted_kept : (k : KindData) (d : Data) (gs : Fields) (f : Bool) → is_lawful_shape k ≡ true → projected d k ≡ Some (rec gs) → keeps (rec (put_field (codes "failed") (boolean f) gs)) (ended_kind (shape_slots k)) ≡ true
admitted_kept k d gs f l h =
    let same : k ≡ recs (shape_slots k) = lawful_record (is_lawful_shape k) k refl l in
    let w : Well k = subst (λ j. Well j) (sym same) (shape_well k) in
    let x : keeps (rec gs) (recs (shape_slots k)) ≡ true = subst (λ j. keeps (rec gs) j ≡ true) same (projected_keeps d k (rec gs) w h) in
    kept_put_with (codes "failed") (boolean f) gs booleans (shape_slots k) (shape_well k).0 x refl

own_status : (f : Bool) (gs : Fields) → flag_is f (field_value (codes "failed") (put_field (codes "failed") (boolean f) gs)) ≡ true
own_status f gs = rw (failed_field f gs) (own_flag f)

set_cond : (q : Bool) (c : Changes) (s : Sets) → Follows c s ⊎ ((c ≡ no_changes) × Uncertain s) → Follows (cond q c no_changes) (cond q s no_sets) ⊎ ((cond q c no_changes ≡ no_changes) × Uncertain (cond q s no_sets))
set_cond true c s h = h
set_cond false c s h = inl tt

module _ (m : ModuleData) (ps : Parts) (c : Scope) (t : Task) (l : is_lawful m ≡ true) (it : Option Data) where
  ok_result : (d : Data) (gs : Fields) → projected d m.ok ≡ Some (rec gs)
      → ResultFine (call_of m ps) (action_sets c t (call_of m ps)) (record { item = it; shape = ok_shape; fields = put_field (codes "failed") (boolean false) gs; sets = set_by_answer m (put_field (codes "failed") (boolean false) gs) })
  ok_result d gs h =
      let fs = put_field (codes "failed") (boolean false) gs in
      let x = admitted_kept m.ok d gs false (and-left (is_lawful_shape m.ok) (is_lawful_shape m.failure) l) h in
      let facts = slot_at (codes "ansible_facts") (shape_slots m.ok) in
      let certain = is_certain_to_run t && not (may_go_on_failed t) in
      let there : spot_ok (field_value (codes "ansible_facts") fs) facts ≡ true =
      rw (at_with (codes "ansible_facts") (codes "failed") true booleans (shape_slots m.ok)) at ((record_models fs (with_slot (codes "failed") true booleans (shape_slots m.ok)) x).at (codes "ansible_facts")) in
      let y = set_cond (is_setup m) (facts_of facts (field_value (codes "ansible_facts") fs)) (gathered certain facts) (gathered_follows certain facts (field_value (codes "ansible_facts") fs) (well_slot (codes "ansible_facts") (shape_slots m.ok) (shape_well m.ok).1) there) in
      record {
        kept = kept_left fs (ok_case m.name (shape_slots m.ok)) (failure_case m.name (shape_slots m.failure)) (or-left (flag_is false (field_value (codes "failed") fs) && keeps (rec fs) (ended_kind (shape_slots m.ok))) false (and-both (flag_is false (field_value (codes "failed") fs)) (keeps (rec fs) (ended_kind (shape_slots m.ok))) (own_status false gs) x));
        skipped = λ z. untrue z;
        sets = ⊎_elim (λ z. inl z) (λ z. inr (z.0, inl z.1)) y;
      }

  failed_result : (d : Data) (gs : Fields) → projected d m.failure ≡ Some (rec gs)
      → ResultFine (call_of m ps) (action_sets c t (call_of m ps)) (record { item = it; shape = failure_shape; fields = put_field (codes "failed") (boolean true) gs; sets = no_changes })
  failed_result d gs h =
      let fs = put_field (codes "failed") (boolean true) gs in
      let x = admitted_kept m.failure d gs true (and-right (is_lawful_shape m.ok) (is_lawful_shape m.failure) l) h in
      record {
        kept = kept_right fs (ok_case m.name (shape_slots m.ok)) (failure_case m.name (shape_slots m.failure)) (or-left (flag_is true (field_value (codes "failed") fs) && keeps (rec fs) (ended_kind (shape_slots m.failure))) false (and-both (flag_is true (field_value (codes "failed") fs)) (keeps (rec fs) (ended_kind (shape_slots m.failure))) (own_status true gs) x));
        skipped = λ z. untrue z;
        sets = inr (refl, inr (failed_field true gs, tt));
      }

  -- what is admitted of an answer
  module _ (R : Admitted → Type 0) (go : Own → Admitted) (b : R breached) (g : (o : Own) → o.item ≡ it → ResultFine (call_of m ps) (action_sets c t (call_of m ps)) o → R (go o)) where
    ended_own : (f : Bool) (d : Data) (k : KindData) (x : Option Data) → projected d k ≡ x → k ≡ cond f m.failure m.ok → R (own_of it m (ended f x) go)
    ended_own true d k (Some (rec gs)) h i = g _ refl (failed_result d gs (subst (λ j. projected d j ≡ Some (rec gs)) i h))
    ended_own false d k (Some (rec gs)) h i = g _ refl (ok_result d gs (subst (λ j. projected d j ≡ Some (rec gs)) i h))
    ended_own true d k None h i = b
    ended_own false d k None h i = b
    ended_own true d k (Some x) h i = b
    ended_own false d k (Some x) h i = b

    judged_own : (o : Option Bool) (fs : Fields) → R (own_of it m (judged o m.ok m.failure fs) go)
    judged_own (Some false) fs = ended_own false (rec (changed_fields fs)) m.ok (projected (rec (changed_fields fs)) m.ok) refl refl
    judged_own (Some true) fs = ended_own true (rec (changed_fields fs)) m.failure (projected (rec (changed_fields fs)) m.failure) refl refl
    judged_own None fs = b

    pub admitted_own : (d : Data) → R (own_of it m (admission m.ok m.failure d) go)
    admitted_own (rec fs) = judged_own (failed_of (field_value (codes "failed") fs)) fs
    admitted_own d = b

answered_own : (a : Action) (c : Scope) (t : Task) (it : Option Data) (xs : List Answer) (R : Admitted → Type 0) (go : Own → List Answer → Admitted) → Lawful a → R breached → R unreached
    → ((o : Own) (ys : List Answer) → o.item ≡ it → ResultFine a (action_sets c t a) o → R (go o ys)) → R (admit_answer it a xs go)
answered_own a c t it [] R go l b u g = b
answered_own (call_of m ps) c t it (object d ∷ xs) R go l b u g = admitted_own m ps c t l it R (λ o. go o xs) b (λ o i r. g o xs i r) d
answered_own a c t it (unreachable ∷ xs) R go l b u g = u
answered_own a c t it (x ∷ xs) R go l b u g = b

-- an item's result with its final statuses
skip_ends : (it : Option Data) (n : Name) → cases_kept (ended_with (skipped_own it) false false true).fields (one n skipped_shape false (recs skipped_slots) no_cases) ≡ true
skip_ends it n = refl

skip_there : (q : Bool) (fs : Fields) (n : Name) → q ≡ true → cases_kept fs (one n skipped_shape false (recs skipped_slots) no_cases) ≡ true → cases_kept fs (cond q (one n skipped_shape false (recs skipped_slots) no_cases) no_cases) ≡ true
skip_there true fs n e h = h
skip_there false fs n e h = untrue e

judged_either : (o : Option Expressions) (a : Action) (fs : Fields) (c f : Bool) → Lawful a → (o ≡ None → f ≡ flag_is true (field_value (codes "failed") fs)) → cases_kept fs (answered_cases a) ≡ true
    → cases_kept (ended_fields c f fs) (judged_cases a o) ≡ true
judged_either None a fs c f l g h = ends_own (answered_cases a) fs c f (g refl) (ends_answered a l) h
judged_either (Some es) a fs c f l g h = ends_either (answered_cases a) fs c f (ends_answered a l) h

ends_judged : (o : Option Expressions) (a : Action) → Lawful a → EndsEach (judged_cases a o)
ends_judged None a l = ends_answered a l
ends_judged (Some es) a l = ends_each_either (answered_cases a) (ends_answered a l)

ended_either : (o : Option Attempts) (cs : Cases) (fs : Fields) → cases_kept fs cs ≡ true → cases_kept fs (ended_cases o cs) ≡ true
ended_either None cs fs h = h
ended_either (Some a) cs fs h = still_kept cs fs h

last_either : (o : Option Attempts) (cs : Cases) (fs : Fields) (c u : Bool) → EndsEach cs → (o ≡ None → u ≡ true) → u ≡ false → cases_kept fs cs ≡ true → cases_kept (ended_fields c true fs) (ended_cases o cs) ≡ true
last_either None cs fs c u w g e h = untrue (sym e ∙ g refl)
last_either (Some a) cs fs c u w g e h = last_kept cs fs c w h

-- a failure that doesn't end the task may be gone on with
goes_on : (o : Option Expressions) (q f : Bool) → (o ≡ None → f ≡ true) → f && not q ≡ false → q || is_some o ≡ true
goes_on o true f g h = refl
goes_on None false f g h = sym (rw (g refl) at h)
goes_on (Some es) false f g h = refl

module _ (st : Setting) (t : Task) (env : Slots) where
  pub record EndedFine (e : Ended) : Type 0 where
    pub kept : cases_kept e.fields (all_results t) ≡ true
    pub status : field_value (codes "failed") e.fields ≡ Some (boolean e.failed)
    pub sets : Follows e.sets (task_sets st t env) ⊎ ((e.sets ≡ no_changes) × (e.failed && not t.ignores ≡ false → Uncertain (task_sets st t env)))

  abbrev pub AllEnded : List Ended → Type 0
  AllEnded [] = Unit {0}
  AllEnded (e ∷ es) = EndedFine e × AllEnded es

  -- and that it may be the result of a last attempt
  pub record JudgedFine (e : Ended) : Type 0 where
    pub ended : EndedFine e
    pub last : e.holds ≡ false → EndedFine (record e { fields = with_statuses e.changed true e.fields; failed = true })

  abbrev pub AllJudged : List Ended → Type 0
  AllJudged [] = Unit {0}
  AllJudged (e ∷ es) = JudgedFine e × AllJudged es

  last_at : (q : Bool) (e : Ended) → e.holds ≡ q → JudgedFine e → EndedFine (cond q e (record e { fields = with_statuses e.changed true e.fields; failed = true }))
  last_at true e i h = h.ended
  last_at false e i h = h.last i

  pub all_last : (es : List Ended) → AllJudged es → AllEnded (last_attempts es)
  all_last [] h = tt
  all_last (e ∷ es) h = (last_at e.holds e refl h.0, all_last es h.1)

  abbrev pub ResultsEnd : ℕ → Results → Type 0
  ResultsEnd n (results_are es) = AllJudged es × (length es ≡ n)
  ResultsEnd n (no_results s) = false ≡ true

  pub record OwnFine (o : Own) : Type 0 where
    pub item : ItemFine st t env t.loop o.item
    pub result : ((o ≡ skipped_own o.item) × (is_conditional t.conditions ≡ true)) ⊎ ResultFine t.action (task_sets st t env) o

  abbrev pub AllOwn : List Own → Type 0
  AllOwn [] = Unit {0}
  AllOwn (o ∷ os) = OwnFine o × AllOwn os

  abbrev pub AdmittedEnd : ℕ → Admitted → Type 0
  AdmittedEnd n (admitted os) = AllOwn os × (length os ≡ n)
  AdmittedEnd n breached = Unit {0}
  AdmittedEnd n unreached = Unit {0}

  with_own_fine : (o : Own) (x : Admitted) (n : ℕ) → OwnFine o → AdmittedEnd n x → AdmittedEnd (suc n) (with_own o x)
  with_own_fine o (admitted os) n w h = let y = h.1 in ((w, h.0), omega (arith, y))
  with_own_fine o breached n w h = tt
  with_own_fine o unreached n w h = tt

  entry_fine : (it : Option Data) (x : Entry) (n : ℕ) (go : List Answer → Admitted) (xs : List Answer) → Lawful t.action → ItemFine st t env t.loop it → EntryFine st t env x → ((ys : List Answer) → AdmittedEnd n (go ys))
      → AdmittedEnd (suc n) (admit_entry t.action it x go xs)
  entry_fine it skips n go xs l i e g = with_own_fine (skipped_own it) (go xs) n (record { item = i; result = inl (refl, e) }) (g xs)
  entry_fine it (acts sh fs c) n go xs l i e g =
      with_own_fine (acted it sh fs c) (go xs) n (record { item = i; result = inr (record { kept = e.0; skipped = λ z. acted_flag sh fs z; sets = inl e.1 }) }) (g xs) where
        acted_flag : (sh : Shape) (fs : Fields) → is_skipped sh ≡ true → flag_is true (field_value (codes "failed") (put_field (codes "failed") (boolean (is_failure sh)) fs)) ≡ false
        acted_flag ok_shape fs h = untrue h
        acted_flag failure_shape fs h = untrue h
        acted_flag skipped_shape fs h = rw (failed_field false fs) refl
  entry_fine it (calls d) n go xs l i e g =
      answered_own t.action (action_scope st t env) t it xs (AdmittedEnd (suc n)) (λ own ys. with_own own (go ys)) l tt tt
      (λ o ys j r. with_own_fine o (go ys) n (record { item = subst (λ z. ItemFine st t env t.loop z) (sym j) i; result = inr r }) (g ys))

  pub passes_fine : (ps : List Pass) (xs : List Answer) → Lawful t.action → AllPasses st t env ps → AdmittedEnd (length ps) (admit_passes t.action ps xs)
  passes_fine [] xs l h = (tt, refl)
  passes_fine (p ∷ ps) xs l h = entry_fine p.item p.entry (length ps) (admit_passes t.action ps) xs l h.0.item h.0.entry (λ ys. passes_fine ps ys l h.1)

  with_ended_fine : (e : Ended) (rs : Results) (n : ℕ) → JudgedFine e → ResultsEnd n rs → ResultsEnd (suc n) (with_ended e rs)
  with_ended_fine e (results_are es) n w h = let y = h.1 in ((w, h.0), omega (arith, y))
  with_ended_fine e (no_results s) n w h = untrue h

  pub local_models : (l : Option Expression) (x : Option Data) (vars : Fields) (own : Slots) → ItemFine st t env l x → Models vars own → Models (with_local (codes "item") x vars) (with_item (loop_kind (start_scope st t env) l) own)
  local_models None None vars own i m = m
  local_models None (Some d) vars own i m = untrue i
  local_models (Some e) None vars own i m = untrue i
  local_models (Some e) (Some d) vars own i m = models_written (codes "item") d vars true (item_kind (kind_of (start_scope st t env) e)) own m i

module _ (st : Setting) (t : Task) (env : Slots) (w : World) (r : Around w st [] t.place) (v : Well (recs env)) (m : Models w.mine (named_slots st t.depth env)) (fit : task_fault st t env ≡ None) where
  abbrev from_until : Option Fault
  from_until = first (until_fault (until_scope st t env) t.attempts) (asks unknown_handler (names_something (all_notified st.handlers t.notifies)))

  after_loop : first (conditions_fault (item_scope st t env) t.conditions)
      (first (action_fault (action_scope st t env) t.action) (first (keyword_fault (give_scope st t env) t.changed_when) (first (keyword_fault (give_scope st t env) t.failed_when) from_until)))
      ≡ None
  after_loop = no_second (loop_fault (start_scope st t env) t.loop) _ fit

  from_action : first (action_fault (action_scope st t env) t.action) (first (keyword_fault (give_scope st t env) t.changed_when) (first (keyword_fault (give_scope st t env) t.failed_when) from_until)) ≡ None
  from_action = no_second (conditions_fault (item_scope st t env) t.conditions) _ after_loop

  from_changed : first (keyword_fault (give_scope st t env) t.changed_when) (first (keyword_fault (give_scope st t env) t.failed_when) from_until) ≡ None
  from_changed = no_second (action_fault (action_scope st t env) t.action) _ from_action

  from_failed : first (keyword_fault (give_scope st t env) t.failed_when) from_until ≡ None
  from_failed = no_second (keyword_fault (give_scope st t env) t.changed_when) _ from_changed

  changed_fit : keyword_fault (give_scope st t env) t.changed_when ≡ None
  changed_fit = no_first (keyword_fault (give_scope st t env) t.changed_when) _ from_changed

  failed_fit : keyword_fault (give_scope st t env) t.failed_when ≡ None
  failed_fit = no_first (keyword_fault (give_scope st t env) t.failed_when) _ from_failed

  until_fit : until_fault (until_scope st t env) t.attempts ≡ None
  until_fit = no_first (until_fault (until_scope st t env) t.attempts) _ (no_second (keyword_fault (give_scope st t env) t.failed_when) _ from_failed)

  pub lawful : Lawful t.action
  lawful = lawful_action t.action (action_scope st t env) (no_first (action_fault (action_scope st t env) t.action) _ from_action)

  -- the item's own result is known where something is asked of it
  knows_result : (it : Option Data) (fs : Fields) (cs : Cases) → ItemFine st t env t.loop it → WellCases cs → cases_kept fs cs ≡ true → Knows (result_world w t it fs) (own_scope st t cs env)
  knows_result it fs cs i u h =
      let inner = with_item (loop_kind (start_scope st t env) t.loop) (named_slots st t.depth env) in
      knows_at (result_world w t it fs) st [] t.place (with_own_result t.register cs inner)
      (record { this = r.this; groups = r.groups; wells = r.wells; views = r.views; later = r.later })
      (well_own_result t.register cs inner u (well_own_item st r.wells t env v))
      (own_models t.register fs (with_local (codes "item") it w.mine) cs inner (local_models st t env t.loop it w.mine (named_slots st t.depth env) i m) h)

  all_kept_skip : (fs : Fields) → is_conditional t.conditions ≡ true → cases_kept fs (one (action_name t.action) skipped_shape false (recs skipped_slots) no_cases) ≡ true → cases_kept fs (all_results t) ≡ true
  all_kept_skip fs q h = kept_left fs (skipped_cases t) (ended_cases t.attempts (judged_cases t.action t.failed_when)) (skip_there (is_conditional t.conditions) fs (action_name t.action) q h)

  skip_fine : (it : Option Data) → is_conditional t.conditions ≡ true → JudgedFine st t env (ended_with (skipped_own it) false false true)
  skip_fine it q =
      record {
        ended = record {
          kept = all_kept_skip (ended_with (skipped_own it) false false true).fields q (skip_ends it (action_name t.action));
          status = refl;
          sets = inr (refl, λ z. uncertain_run t.action (action_scope st t env) t (not_certain (is_conditional t.conditions) (is_some t.loop) q));
        };
        last = λ z. untrue (sym z);
      } where
        not_certain : (q l : Bool) → q ≡ true → not q && not l ≡ false
        not_certain true l h = refl
        not_certain false l h = untrue h

  sets_at : (o : Own) (b : Bool) → ResultFine t.action (task_sets st t env) o → (t.failed_when ≡ None → field_value (codes "failed") o.fields ≡ Some (boolean true) → b ≡ true)
      → Follows o.sets (task_sets st t env) ⊎ ((o.sets ≡ no_changes) × (b && not t.ignores ≡ false → Uncertain (task_sets st t env)))
  sets_at o b h i = ⊎_elim (λ x. inl x) (λ x. inr (x.0, λ z. ⊎_elim (λ y. y) (λ y. uncertain_going t.action (action_scope st t env) t y.1 (goes_on t.failed_when t.ignores b (λ n. i n y.0) z)) x.1)) h.sets

  ended_fine : (o : Own) (c f u : Bool) → (t.failed_when ≡ None → f ≡ flag_is true (field_value (codes "failed") o.fields)) → (t.attempts ≡ None → u ≡ true) → ResultFine t.action (task_sets st t env) o → JudgedFine st t env (ended_with o c f u)
  ended_fine o c f u g k h =
      let judged = judged_cases t.action t.failed_when in
      let fs = ended_fields c f o.fields in
      let here = judged_either t.failed_when t.action o.fields c f lawful g h.kept in
      record {
        ended = record {
          kept = kept_right fs (skipped_cases t) (ended_cases t.attempts judged) (ended_either t.attempts judged fs here);
          status = failed_field f (put_field (codes "changed") (boolean c) o.fields);
          sets = sets_at o f h (λ n y. g n ∙ ap (λ b. flag_is true b) y);
        };
        last = λ z. record {
          kept = kept_right (ended_fields c true fs) (skipped_cases t) (ended_cases t.attempts judged) (last_either t.attempts judged fs c u (ends_judged t.failed_when t.action lawful) k z here);
          status = failed_field true (put_field (codes "changed") (boolean c) fs);
          sets = sets_at o true h (λ n y. refl);
        };
      }

  own_ends : (q : Bool) (o : Own) (rs : Results) (n : ℕ) → is_skipped o.shape ≡ q → ItemFine st t env t.loop o.item → ResultFine t.action (task_sets st t env) o → ResultsEnd st t env n rs
      → ResultsEnd st t env (suc n)
      (cond q (with_ended (ended_with o false false true) rs)
      (with_status (keyword_of (own_world w t o) t.changed_when (flag_is true (field_value (codes "changed") o.fields))) (λ c.
      with_status (keyword_of (own_world w t o) t.failed_when (flag_is true (field_value (codes "failed") o.fields))) (λ f.
      with_status (until_of (judged_world w t o c f) t.attempts) (λ u.
      with_ended (ended_with o c f u) rs)))))
  own_ends true o rs n e i h g = with_ended_fine st t env (ended_with o false false true) rs n (ended_fine o false false true (λ z. sym (h.skipped e)) (λ z. refl) h) g
  own_ends false o rs n e i h g =
      let k = knows_result o.item o.fields (answered_cases t.action) i (well_answered_cases t.action) h.kept in
      let failed_now = flag_is true (field_value (codes "failed") o.fields) in
      let x = keyword_decided t.changed_when (own_world w t o) (give_scope st t env) (flag_is true (field_value (codes "changed") o.fields)) k changed_fit in
      let y = keyword_decided t.failed_when (own_world w t o) (give_scope st t env) failed_now k failed_fit in
      let judged = judged_cases t.action t.failed_when in
      let j = knows_result o.item (with_statuses x.0 y.0 o.fields) judged i (well_judged_cases t.action t.failed_when) (judged_either t.failed_when t.action o.fields x.0 y.0 lawful y.2 h.kept) in
      let z = until_decided t.attempts (judged_world w t o x.0 y.0) (until_scope st t env) j until_fit in
      status_end (keyword_of (own_world w t o) t.changed_when (flag_is true (field_value (codes "changed") o.fields))) x.0 _ x.1
      (status_end (keyword_of (own_world w t o) t.failed_when failed_now) y.0 _ y.1
      (status_end (until_of (judged_world w t o x.0 y.0) t.attempts) z.0 _ z.1 (with_ended_fine st t env (ended_with o x.0 y.0 z.0) rs n (ended_fine o x.0 y.0 z.0 y.2 z.2 h) g))) where
        status_end : (p : Outcome) (b : Bool) (go : Bool → Results) → p ≡ value (boolean b) → ResultsEnd st t env (suc n) (go b) → ResultsEnd st t env (suc n) (with_status p go)
        status_end p b go e h = rw e h

  own_end : (o : Own) (rs : Results) (n : ℕ) → OwnFine st t env o → ResultsEnd st t env n rs → ResultsEnd st t env (suc n) (end_own w t o rs)
  own_end o rs n h g =
      ⊎_elim (λ x. subst (λ z. ResultsEnd st t env (suc n) (end_own w t z rs)) (sym x.0) (with_ended_fine st t env (ended_with (skipped_own o.item) false false true) rs n (skip_fine o.item x.1) g))
      (λ x. own_ends (is_skipped o.shape) o rs n refl h.item x g) h.result

  pub owns_end : (os : List Own) → AllOwn st t env os → ResultsEnd st t env (length os) (end_all w t os)
  owns_end [] h = (tt, refl)
  owns_end (o ∷ os) h = own_end o (end_all w t os) (length os) h.0 (owns_end os h.1)
