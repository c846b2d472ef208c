-- The kinds with which a task goes on or fails, of its cases and its loop.
use Rattle.std.proofs.Common.{◌≡◌, ◌∙◌, Bool, true, false, cond, Option, Some, None, is_some, option_map, refl, sym, ap, ap₂}
use Rattle.pb_semantics.specs.Kind.{KindData, Slots, Cases, no_cases, one}
use Rattle.pb_semantics.proofs.Bools.{untrue}
use Rattle.pb_language.specs.Cases.{append_sets, going_cases, failing_cases, all_results, listed_kind, looped_kind, registered_kind}
use Rattle.pb_language.specs.Expression.{Expression, Name}
use Rattle.pb_language.specs.Judgement.{has_case, has_going, register_writes, task_sets, task_writes}
use Rattle.pb_language.specs.Narrow.{results_of}
use Rattle.pb_language.specs.Setting.{Setting, loop_kind, start_scope}
use Rattle.pb_language.specs.Task.{Task}
use Rattle.pb_kind.specs.KindView.{kind_view}
use Rattle.pb_transfer.specs.Written.{sets_view}
use Rattle.pb_judgement.specs.Ends.{case_kind}
use Rattle.pb_visit.specs.Visits.{going_kind, failing_kind, registered, writes_view}
use Rattle.pb_visit.specs.declared.writes.Writes.{Writes}

-- the kind of cases, where there are some
case_kind-there : (cs : Cases) → case_kind cs ≡ cond (has_case cs) (Some (results_of cs)) None
case_kind-there no_cases = refl
case_kind-there (one m sh fl k cs) = refl

going-alone : (t : Task) (o : Option Expression) → false ≡ is_some o → case_kind (going_cases t) ≡ cond (has_going t o) (Some (results_of (going_cases t))) None
going-alone t None h = case_kind-there (going_cases t)
going-alone t (Some e) h = untrue h

going-looped : (t : Task) (o : Option Expression) (l j k : KindData) → true ≡ is_some o → j ≡ results_of (all_results t) → k ≡ looped_kind (listed_kind j l)
    → Some k ≡ cond (has_going t o) (Some (registered_kind t (Some l) (going_cases t))) None
going-looped t None l j k h i e = untrue (sym h)
going-looped t (Some x) l j k h i e = ap Some (e ∙ ap (λ r. looped_kind (listed_kind r l)) i)

-- without a loop
pub goes_alone : (t : Task) (k : Option KindData) → false ≡ is_some t.loop → k ≡ case_kind (going_cases t) → k ≡ going_kind t None
goes_alone t k h e = e ∙ going-alone t t.loop h

pub fails_alone : (t : Task) (k : Option KindData) → k ≡ case_kind (failing_cases t) → k ≡ failing_kind t None
fails_alone t k e = e ∙ case_kind-there (failing_cases t)

-- with a loop over that
pub goes_looped : (t : Task) (l j k : KindData) → true ≡ is_some t.loop → j ≡ results_of (all_results t) → k ≡ looped_kind (listed_kind j l) → Some k ≡ going_kind t (Some l)
goes_looped t l j k h i e = going-looped t t.loop l j k h i e

failing-looped : (t : Task) (cs : Cases) (f l j k : KindData) → Some f ≡ case_kind cs → j ≡ results_of (all_results t) → k ≡ looped_kind (listed_kind j l)
    → Some k ≡ cond (has_case cs) (Some (registered_kind t (Some l) cs)) None
failing-looped t no_cases f l j k h i e = absurd (cc)
failing-looped t (one m sh fl x cs) f l j k h i e = ap Some (e ∙ ap (λ r. looped_kind (listed_kind r l)) i)

pub fails_looped : (t : Task) (f l j k : KindData) → Some f ≡ case_kind (failing_cases t) → j ≡ results_of (all_results t) → k ≡ looped_kind (listed_kind j l) → Some k ≡ failing_kind t (Some l)
fails_looped t f l j k h i e = failing-looped t (failing_cases t) f l j k h i e

never-fails : (cs : Cases) (k : KindData) → None ≡ case_kind cs → None ≡ cond (has_case cs) (Some k) None
never-fails no_cases k h = refl
never-fails (one m sh fl x cs) k h = absurd (cc)

pub fails_never : (t : Task) (l : KindData) → None ≡ case_kind (failing_cases t) → None ≡ failing_kind t (Some l)
fails_never t l h = never-fails (failing_cases t) (registered_kind t (Some l) (failing_cases t)) h

-- what is registered, where there is a case
registered_there : (n : Option Name) (q : Bool) (k : KindData) → registered n (cond q (Some k) None) ≡ register_writes n q k
registered_there None true k = refl
registered_there None false k = refl
registered_there (Some n) true k = refl
registered_there (Some n) false k = refl

pub writes_are : (st : Setting) (t : Task) (env : Slots) (over : Option KindData) (w : Writes) → over ≡ loop_kind (start_scope st t env) t.loop → option_map kind_view w.going ≡ going_kind t over
    → option_map kind_view w.failing ≡ failing_kind t over → sets_view w.sets.items ≡ task_sets st t env → writes_view t.register w ≡ task_writes st t env
writes_are st t env over w is goes fails made =
    let n = t.register in
    ap₂ append_sets
    (ap (registered n) goes ∙ registered_there n (has_going t t.loop) (registered_kind t over (going_cases t)) ∙ ap (λ o. register_writes n (has_going t t.loop) (registered_kind t o (going_cases t))) is)
    (ap₂ append_sets
    (ap (registered n) fails ∙ registered_there n (has_case (failing_cases t)) (registered_kind t over (failing_cases t)) ∙ ap (λ o. register_writes n (has_case (failing_cases t)) (registered_kind t o (failing_cases t))) is)
    made)
