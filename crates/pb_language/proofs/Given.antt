-- A Give of a fit task is not stuck, and what it writes is known.
use Rattle.std.proofs.Common.{◌≡◌, ◌≤◌, ℕ, List, [], ◌∷◌, Bool, true, false, not, ◌&&◌, ◌||◌, ⊎_elim, cond, nat_le, Option, Some, None, is_some, length, codes, refl, sym, ap, subst, ◌∙◌, true≢false, arith}
use Rattle.pb_semantics.specs.Data.{Data, Fields, boolean, rec, list, field_value, count_of}
use Rattle.pb_semantics.specs.Kind.{KindData, Slots, Cases, recs, anything, no_cases, spot, slot_at}
use Rattle.pb_semantics.specs.Keeps.{keeps, all_items, cases_kept, Models}
use Rattle.pb_semantics.specs.Below.{below}
use Rattle.pb_semantics.specs.Well.{Well}
use Rattle.pb_semantics.proofs.Bools.{untrue, and-left, and-right, and-both}
use Rattle.pb_language.specs.Expression.{Name, Expression}
use Rattle.pb_language.specs.World.{World}
use Rattle.pb_language.specs.Scope.{view_of, spot_kind}
use Rattle.pb_language.specs.Kinds.{kind_of}
use Rattle.pb_language.specs.Narrow.{results_of, cases_with}
use Rattle.pb_language.specs.Task.{Task}
use Rattle.pb_language.specs.Cases.{all_results, going_cases, failing_cases, looped_kind, listed_kind, length_bound, registered_kind, Sets, no_sets, sets, append_sets, is_conditional, with_sets, with_register}
use Rattle.pb_language.specs.Setting.{Setting, start_scope, loop_kind, action_scope}
use Rattle.pb_language.specs.Judgement.{has_case, has_going, task_kind, task_sets, going_slots, failing_slots, register_writes, task_writes, loop_length}
use Rattle.pb_language.specs.Start.{Pass}
use Rattle.pb_language.specs.Give.{last_attempts, Own, Admitted, admitted, breached, unreached, admit_passes, Ended, Results, results_are, no_results, end_all, any_failed, result_items, looped_fields, registered_fields, with_changes, with_all_sets, register_field}
use Rattle.pb_language.specs.Tables.{writes_below}
use Rattle.pb_language.proofs.Claims.{Around, Follows, Single, PassesFine, Written, ResultsFine, AdmittedFine, GiveClaim}
use Rattle.pb_language.proofs.After.{well_task_sets, well_going_register}
use Rattle.pb_language.proofs.GivenFields.{models_put, models_put_with, kept_status, kept_has}
use Rattle.pb_language.proofs.GivenSets.{Uncertain, uncertain_run, uncertain_models, Holds, holds_models, follows_holds, follows_models, below_ok, follows_view}
use Rattle.pb_language.proofs.GivenResults.{all_last, EndedFine, AllEnded, AllOwn, ResultsEnd, AdmittedEnd, passes_fine, lawful, owns_end}
use Rattle.pb_language.proofs.Named.{le_from}

-- without a loop there is one result
abbrev SingleEnded : Option Expression → List Ended → Type 0
SingleEnded None [] = false ≡ true
SingleEnded None (e ∷ []) = Unit {0}
SingleEnded None (e ∷ f ∷ es) = false ≡ true
SingleEnded (Some l) es = Unit {0}

single_ended : (st : Setting) (t : Task) (env : Slots) (l : Option Expression) (ps : List Pass) (es : List Ended) → Single st t env l ps → length es ≡ length ps → SingleEnded l es
single_ended st t env None [] es h e = untrue h
single_ended st t env None (p ∷ []) [] h e = absurd (omega (arith, e))
single_ended st t env None (p ∷ []) (x ∷ []) h e = tt
single_ended st t env None (p ∷ []) (x ∷ y ∷ es) h e = absurd (omega (arith, e))
single_ended st t env None (p ∷ q ∷ ps) es h e = untrue h
single_ended st t env (Some l) ps es h e = tt

last_count : (es : List Ended) → length (last_attempts es) ≡ length es
last_count [] = refl
last_count (e ∷ es) = let y = last_count es in omega (arith, y)

-- a loop's results
count_results : (es : List Ended) → count_of (result_items es) ≡ length es
count_results [] = refl
count_results (e ∷ es) = let y = count_results es in omega (arith, y)

-- the cases in which a task goes on, and those in which it fails
not_ended : (f : Bool) → f && true ≡ false → not f ≡ true
not_ended true h = absurd (true≢false h)
not_ended false h = refl

going_kept : (q f : Bool) (fs : Fields) (cs : Cases) → f && not q ≡ false → field_value (codes "failed") fs ≡ Some (boolean f) → cases_kept fs cs ≡ true → cases_kept fs (cond q cs (cases_with (λ sh fl k. not fl) cs)) ≡ true
going_kept true f fs cs h e i = i
going_kept false f fs cs h e i = kept_status (λ fl. not fl) f fs cs (not_ended f h) e i

failing_kept : (q f : Bool) (fs : Fields) (cs : Cases) → f && not q ≡ true → field_value (codes "failed") fs ≡ Some (boolean f) → cases_kept fs cs ≡ true → cases_kept fs (cond q no_cases (cases_with (λ sh fl k. fl) cs)) ≡ true
failing_kept true f fs cs h e i = untrue (and-right f false h)
failing_kept false f fs cs h e i = kept_status (λ fl. fl) f fs cs (and-left f true h) e i

-- what is registered
register_models : (r : Option Name) (d : Data) (k : KindData) (vars : Fields) (env : Slots) → Models vars env → keeps d k ≡ true → Models (register_field r d vars) (with_register r k env)
register_models None d k vars env m h = m
register_models (Some n) d k vars env m h = models_put_with n d vars (spot true k) env m h

register_view : (r : Option Name) (q : Bool) (d : Data) (k : KindData) (vars : Fields) (view : Slots) → q ≡ true → writes_below (register_writes r q k) view ≡ true → keeps d k ≡ true → Models vars view → Models (register_field r d vars) view
register_view None q d k vars view e b h m = m
register_view (Some n) true d k vars view e b h m = models_put n d vars view m (below_ok d k (slot_at n view) h (and-left (below k (spot_kind (slot_at n view))) true b))
register_view (Some n) false d k vars view e b h m = untrue e

-- writes of both
below_first : (r s : Sets) (view : Slots) → writes_below (append_sets r s) view ≡ true → writes_below r view ≡ true
below_first no_sets s view h = refl
below_first (sets n a k r) s view h =
    let here = below k (spot_kind (slot_at n view)) in
    let rest = writes_below (append_sets r s) view in
    and-both here (writes_below r view) (and-left here rest h) (below_first r s view (and-right here rest h))

below_second : (r s : Sets) (view : Slots) → writes_below (append_sets r s) view ≡ true → writes_below s view ≡ true
below_second no_sets s view h = h
below_second (sets n a k r) s view h = below_second r s view (and-right (below k (spot_kind (slot_at n view))) (writes_below (append_sets r s) view) h)

first_way : (q : Bool) (a b : Fields) (env : Slots) → q ≡ true → Models a env → Models (cond q a b) env
first_way true a b env e m = m
first_way false a b env e m = untrue e

second_way : (q : Bool) (a b : Fields) (env : Slots) → q ≡ false → Models b env → Models (cond q a b) env
second_way true a b env e m = absurd (true≢false e)
second_way false a b env e m = m

looped_run : (q : Bool) (l : Option Expression) → is_some l ≡ true → not q && not (is_some l) ≡ false
looped_run q None h = untrue h
looped_run true (Some e) h = refl
looped_run false (Some e) h = refl

module _ (st : Setting) (t : Task) (env : Slots) (v : Well (recs env)) (wells : (g : Name) → Well (recs (view_of g st.views))) where
  all_items_kept : (es : List Ended) → AllEnded st t env es → all_items (λ d. keeps d (results_of (all_results t))) (result_items es) ≡ true
  all_items_kept [] h = refl
  all_items_kept (e ∷ es) h = and-both (cases_kept e.fields (all_results t)) (all_items (λ d. keeps d (results_of (all_results t))) (result_items es)) h.0.kept (all_items_kept es h.1)

  listed_kept : (es : List Ended) (k : KindData) → AllEnded st t env es → length es ≤ length_bound k → keeps (list (result_items es)) (listed_kind (results_of (all_results t)) k) ≡ true
  listed_kept es anything h l = refl
  listed_kept es k h l =
      let n = length_bound k in
      and-both (nat_le (count_of (result_items es)) n) (all_items (λ d. keeps d (results_of (all_results t))) (result_items es)) (rw (count_results es) (le_from (length es) n l)) (all_items_kept es h)

  looped_kept : (es : List Ended) (k : KindData) → AllEnded st t env es → length es ≤ length_bound k → keeps (rec (looped_fields es)) (looped_kind (listed_kind (results_of (all_results t)) k)) ≡ true
  looped_kept es k h l = rw (listed_kept es k h l) refl

  -- what is registered is of its kind, and there is such a case
  any_going : (f q : Bool) → (f || false) && not q ≡ false → f && not q ≡ false
  any_going true q h = h
  any_going false q h = refl

  any_failing : (f q : Bool) → (f || false) && not q ≡ true → f && not q ≡ true
  any_failing true q h = h
  any_failing false q h = untrue h

  going_registered : (l : Option Expression) (es : List Ended) → SingleEnded l es → AllEnded st t env es → length es ≤ loop_length st t env l → any_failed es && not t.ignores ≡ false
      → (keeps (rec (registered_fields l es)) (registered_kind t (loop_kind (start_scope st t env) l) (going_cases t)) ≡ true) × (has_going t l ≡ true)
  going_registered None [] s h n g = untrue s
  going_registered None (e ∷ []) s h n g =
      let x = going_kept t.ignores e.failed e.fields (all_results t) (any_going e.failed t.ignores g) h.0.status h.0.kept in
      (x, kept_has e.fields (going_cases t) x)
  going_registered None (e ∷ f ∷ es) s h n g = untrue s
  going_registered (Some l) es s h n g = (looped_kept es (kind_of (start_scope st t env) l) h n, refl)

  failing_registered : (l : Option Expression) (es : List Ended) → SingleEnded l es → AllEnded st t env es → length es ≤ loop_length st t env l → any_failed es && not t.ignores ≡ true
      → keeps (rec (registered_fields l es)) (registered_kind t (loop_kind (start_scope st t env) l) (failing_cases t)) ≡ true
  failing_registered None [] s h n g = untrue s
  failing_registered None (e ∷ []) s h n g = failing_kept t.ignores e.failed e.fields (all_results t) (any_failing e.failed t.ignores g) h.0.status h.0.kept
  failing_registered None (e ∷ f ∷ es) s h n g = untrue s
  failing_registered (Some l) es s h n g = looped_kept es (kind_of (start_scope st t env) l) h n

  fails_at : (f : Bool) (e : Ended) (es : List Ended) → e.failed ≡ f → EndedFine st t env e → (any_failed es && not t.ignores ≡ true → has_case (failing_cases t) ≡ true) → (f || any_failed es) && not t.ignores ≡ true → has_case (failing_cases t) ≡ true
  fails_at true e es i h later g = kept_has e.fields (failing_cases t) (failing_kept t.ignores true e.fields (all_results t) g (h.status ∙ ap (λ b. Some (boolean b)) i) h.kept)
  fails_at false e es i h later g = later g

  fails : (es : List Ended) → AllEnded st t env es → any_failed es && not t.ignores ≡ true → has_case (failing_cases t) ≡ true
  fails [] h g = untrue g
  fails (e ∷ es) h g = fails_at e.failed e es refl h.0 (fails es h.1) g

  -- what is set
  ended_holds : (e : Ended) (final : Slots) → (Follows e.sets (task_sets st t env) → Holds e.sets final) → EndedFine st t env e → Holds e.sets final
  ended_holds e final f h = ⊎_elim f (λ x. subst (λ c. Holds c final) (sym x.0) tt) h.sets

  all_set : (es : List Ended) (vars : Fields) (final : Slots) → AllEnded st t env es → ((e : Ended) → Follows e.sets (task_sets st t env) → Holds e.sets final) → Models vars final → Models (with_all_sets es vars) final
  all_set [] vars final h f m = m
  all_set (e ∷ es) vars final h f m = all_set es (with_changes e.sets vars) final h.1 f (holds_models e.sets vars final (ended_holds e final (f e) h.0) m)

  going_set : (l : Option Expression) (es : List Ended) (vars : Fields) (inner : Slots) → (is_some l ≡ true → Uncertain (task_sets st t env)) → SingleEnded l es → AllEnded st t env es → Well (recs inner) → any_failed es && not t.ignores ≡ false → Models vars inner
      → Models (with_all_sets es vars) (with_sets (task_sets st t env) inner)
  going_set None [] vars inner u s h w g m = untrue s
  going_set None (e ∷ []) vars inner u s h w g m =
      let x = well_task_sets st wells t env v in
      ⊎_elim (λ y. follows_models e.sets (task_sets st t env) vars inner y x w m)
      (λ y. subst (λ c. Models (with_changes c vars) (with_sets (task_sets st t env) inner)) (sym y.0) (uncertain_models (task_sets st t env) inner vars (y.1 (any_going e.failed t.ignores g)) x w m)) h.0.sets
  going_set None (e ∷ f ∷ es) vars inner u s h w g m = untrue s
  going_set (Some l) es vars inner u s h w g m =
      let x = well_task_sets st wells t env v in
      all_set es vars (with_sets (task_sets st t env) inner) h (λ e f. follows_holds e.sets (task_sets st t env) inner f (u refl) x w) (uncertain_models (task_sets st t env) inner vars (u refl) x w m)

  kept_at : (q : Bool) (es : List Ended) (vars : Fields) → any_failed es && not t.ignores ≡ q → SingleEnded t.loop es → AllEnded st t env es → length es ≤ loop_length st t env t.loop → (view : Slots) → Models vars view → writes_below (task_writes st t env) view ≡ true
      → Models (cond q (register_field t.register (rec (registered_fields t.loop es)) vars) (with_all_sets es (register_field t.register (rec (registered_fields t.loop es)) vars))) view
  kept_at q es vars e s h n view m b =
      let going = register_writes t.register (has_going t t.loop) (task_kind st t env (going_cases t)) in
      let failing = register_writes t.register (has_case (failing_cases t)) (task_kind st t env (failing_cases t)) in
      let rest = append_sets failing (task_sets st t env) in
      let later = below_second going rest view b in
      way q e (λ i.
      register_view t.register (has_case (failing_cases t)) (rec (registered_fields t.loop es)) (task_kind st t env (failing_cases t)) vars view (fails es h i) (below_first failing (task_sets st t env) view later) (failing_registered t.loop es s h n i) m)
      (λ i.
      let x = going_registered t.loop es s h n i in
      all_set es (register_field t.register (rec (registered_fields t.loop es)) vars) view h (λ z f. follows_view z.sets (task_sets st t env) view f (below_second failing (task_sets st t env) view later))
      (register_view t.register (has_going t t.loop) (rec (registered_fields t.loop es)) (task_kind st t env (going_cases t)) vars view x.1 (below_first going rest view b) x.0 m)) where
        way : {a b : Fields} (q : Bool) → any_failed es && not t.ignores ≡ q → (any_failed es && not t.ignores ≡ true → Models a view) → (any_failed es && not t.ignores ≡ false → Models b view) → Models (cond q a b) view
        way true e f g = f e
        way false e f g = g e

  pub written : (es : List Ended) (vars : Fields) → Models vars env → SingleEnded t.loop es → AllEnded st t env es → length es ≤ loop_length st t env t.loop → Written st t env es vars
  written es vars m s h n =
      let register = register_field t.register (rec (registered_fields t.loop es)) vars in
      record {
        going = λ g.
            let x = going_registered t.loop es s h n g in (
              second_way (any_failed es && not t.ignores) register (with_all_sets es register) (going_slots st t env) g
                  (going_set t.loop es register (with_register t.register (task_kind st t env (going_cases t)) env) (λ i. uncertain_run t.action (action_scope st t env) t (looped_run (is_conditional t.conditions) t.loop i)) s h (well_going_register st wells t env v) g
                  (register_models t.register (rec (registered_fields t.loop es)) (task_kind st t env (going_cases t)) vars env m x.0)),
              x.1,
            );
        failing = λ g. (
          first_way (any_failed es && not t.ignores) register (with_all_sets es register) (failing_slots st t env) g
              (register_models t.register (rec (registered_fields t.loop es)) (task_kind st t env (failing_cases t)) vars env m (failing_registered t.loop es s h n g)),
          fails es h g,
        );
        kept = kept_at (any_failed es && not t.ignores) es vars refl s h n;
      }

module _ (w : World) (st : Setting) (t : Task) (env : Slots) (vars : Fields) (ps : List Pass) (r : Around w st [] t.place) (v : Well (recs env)) (m : Models vars env) (p : PassesFine st t env ps) where
  results_fine : (rs : Results) (n : ℕ) → n ≡ length ps → ResultsEnd st t env n rs → ResultsFine st t env vars rs
  results_fine (results_are es) n e h =
      let same : length (last_attempts es) ≡ length ps = last_count es ∙ h.1 ∙ e in
      let few = p.few in
      written st t env v r.wells (last_attempts es) vars m (single_ended st t env t.loop ps (last_attempts es) p.single same) (all_last st t env es h.0) (rw same few)
  results_fine (no_results s) n e h = h

  admitted_fine : (x : Admitted) → AdmittedEnd st t env (length ps) x → ((os : List Own) → AllOwn st t env os → ResultsEnd st t env (length os) (end_all w t os)) → AdmittedFine st t env w vars x
  admitted_fine (admitted os) h f = results_fine (end_all w t os) (length os) h.1 (f os h.0)
  admitted_fine breached h f = tt
  admitted_fine unreached h f = tt

pub give_claim : GiveClaim
give_claim w st t env vars ps xs r v m own fit p =
    admitted_fine w st t env vars ps r v m p (admit_passes t.action ps xs) (passes_fine st t env ps xs (lawful st t env w r v own fit) p.each) (λ os h. owns_end st t env w r v own fit os h)
