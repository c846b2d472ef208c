-- What a task makes that goes on or fails, where a way leads to it.
use Rattle.std.proofs.Common.{◌≡◌, ◌∙◌, Bool, true, false, cond, Option, Some, None, refl, sym, ap, subst}
use Rattle.pb_semantics.specs.Kind.{KindData, Cases, recs}
use Rattle.pb_semantics.specs.Well.{Well}
use Rattle.pb_semantics.proofs.Bools.{untrue}
use Rattle.pb_language.specs.Cases.{going_cases, failing_cases, registered_kind}
use Rattle.pb_language.specs.Judgement.{Exit, dead, live, has_case, has_going, task_sets}
use Rattle.pb_language.specs.Setting.{Setting, loop_kind, start_scope}
use Rattle.pb_language.specs.Task.{Task}
use Rattle.pb_language.specs.Wells.{WellExit, WellSets, WellViews}
use Rattle.pb_language.proofs.After.{well_failing, well_going, well_task_kind, well_task_sets}
use Rattle.pb_lattice.specs.Environments.{is_dead}
use Rattle.pb_kind.specs.KindView.{kind_view}
use Rattle.pb_outlook.specs.Standing.{known_of}
use Rattle.pb_transfer.specs.Written.{sets_view}
use Rattle.pb_visit.specs.Made.{IsFailing, IsGoing}
use Rattle.pb_visit.specs.Visits.{failing_kind, going_kind}
use Rattle.pb_visit.specs.declared.transfer.Made.{Made}

-- a kind is there where there is a case
none_there : (q : Bool) (k : KindData) → None ≡ cond q (Some k) None → q ≡ false
none_there true k h = absurd (cc)
none_there false k h = refl

some_there : (q : Bool) (j k : KindData) → Some j ≡ cond q (Some k) None → (q ≡ true) × (j ≡ k)
some_there true j k h = (refl, (cc))
some_there false j k h = absurd (cc)

known_well : (e : Exit) → WellExit e → is_dead e ≡ false → Well (recs (known_of e))
known_well dead h alive = untrue (sym alive)
known_well (live ss) h alive = h

module _ (st : Setting) (views : WellViews st.views) (t : Task) (e : Exit) (well : WellExit e) (alive : is_dead e ≡ false) (over : Option KindData) (is : over ≡ loop_kind (start_scope st t (known_of e)) t.loop) where
  kind_well : (cs : Cases) (k : KindData) → Well (registered_kind t (loop_kind (start_scope st t (known_of e)) t.loop) cs) → k ≡ registered_kind t over cs → Well k
  kind_well cs k w h = subst Well (sym (h ∙ ap (λ o. registered_kind t o cs) is)) w

  pub goes_not : None ≡ going_kind t over → IsGoing st t (known_of e) None
  goes_not h = none_there (has_going t t.loop) (registered_kind t over (going_cases t)) h

  pub goes_making : (m : Made) → Some (kind_view m.result) ≡ going_kind t over → sets_view m.sets.items ≡ task_sets st t (known_of e) → IsGoing st t (known_of e) (Some m)
  goes_making m h sets =
      let there = some_there (has_going t t.loop) (kind_view m.result) (registered_kind t over (going_cases t)) h in (
        there.0,
        record {
          result = there.1 ∙ ap (λ o. registered_kind t o (going_cases t)) is;
          sets = sets;
          well = kind_well (going_cases t) (kind_view m.result) (well_task_kind st views t (known_of e) (known_well e well alive) (going_cases t) (well_going t)) there.1;
          well_sets = subst WellSets (sym sets) (well_task_sets st views t (known_of e) (known_well e well alive));
        },
      )

  pub fails_with : (o : Option KindData) → o ≡ failing_kind t over → IsFailing st t (known_of e) o
  fails_with None h = none_there (has_case (failing_cases t)) (registered_kind t over (failing_cases t)) h
  fails_with (Some k) h =
      let there = some_there (has_case (failing_cases t)) k (registered_kind t over (failing_cases t)) h in (
        there.0,
        (there.1 ∙ ap (λ o. registered_kind t o (failing_cases t)) is),
        kind_well (failing_cases t) k (well_task_kind st views t (known_of e) (known_well e well alive) (failing_cases t) (well_failing t)) there.1,
      )
