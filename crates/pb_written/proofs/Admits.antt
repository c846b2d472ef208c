-- What a task writes by its answers: what it registers, what its passes set, and the facts of its module.
use Rattle.std.proofs.Common.{◌≡◌, List, [], ◌∷◌, Bool, true, false, not, ◌&&◌, cond, Option, Some, None, codes, refl, ap, subst}
use Rattle.pb_semantics.specs.Admission.{AdmissionData, taken, failed, admission}
use Rattle.pb_semantics.specs.Data.{Data, Fields, boolean, rec, field_value}
use Rattle.pb_semantics.specs.Keeps.{is_among, flag_is}
use Rattle.pb_semantics.specs.Kind.{Slots, Spot, recs, no_slots, slot, spot, slot_at, is_skipped}
use Rattle.pb_semantics.specs.Signature.{ModuleData}
use Rattle.pb_language.specs.Cases.{facts_set, gathered, is_setup, shape_slots}
use Rattle.pb_language.specs.Evaluation.{Outcome, value, stuck}
use Rattle.pb_language.specs.Expression.{Name}
use Rattle.pb_language.specs.Give.{Answer, object, unreachable, Own, Admitted, admitted, breached, unreached, with_own, facts_changed, facts_of, set_by_answer, own_of, admit_answer, admit_entry, admit_passes, acted, skipped_own, Ended, Results, results_are, no_results, ended_with, with_status, with_ended, keyword_of, own_world, judged_world, until_of, end_own, end_all, last_attempt, last_attempts, with_change, with_changes, with_all_sets, register_field, registered_fields, any_failed, written_variables, with_statuses}
use Rattle.pb_language.specs.Start.{Changes, no_changes, change, Entry, skips, calls, acts, Pass}
use Rattle.pb_language.specs.Rules.{option_names}
use Rattle.pb_language.specs.Task.{Action, call_of, Task}
use Rattle.pb_language.specs.TaskForm.{keys_of}
use Rattle.pb_language.specs.World.{World}
use Rattle.pb_reads.specs.Uses.{action_names, facts_named, names_set}
use Rattle.pb_written.proofs.Names.{AllAmong, put_among}
use Rattle.pb_written.proofs.Planned.{names_changed, EntryAmong, PassesAmong}

abbrev pub OwnsAmong : List Name → List Own → Type 0
OwnsAmong ns [] = Unit {0}
OwnsAmong ns (o ∷ os) = AllAmong ns (names_changed o.sets) × OwnsAmong ns os

abbrev pub AdmittedAmong : List Name → Admitted → Type 0
AdmittedAmong ns (admitted os) = OwnsAmong ns os
AdmittedAmong ns breached = Unit {0}
AdmittedAmong ns unreached = Unit {0}

abbrev pub EndedAmong : List Name → List Ended → Type 0
EndedAmong ns [] = Unit {0}
EndedAmong ns (e ∷ es) = AllAmong ns (names_changed e.sets) × EndedAmong ns es

abbrev pub ResultsAmong : List Name → Results → Type 0
ResultsAmong ns (results_are es) = EndedAmong ns es
ResultsAmong ns (no_results s) = Unit {0}

-- the facts that are set are those that the shape names
same_facts : (q : Bool) (ss : Slots) (fs : Fields) → names_set (facts_set q ss) ≡ names_changed (facts_changed ss fs)
same_facts q no_slots fs = refl
same_facts q (slot n a k ss) fs = ap (λ ns. n ∷ ns) (same_facts q ss fs)

module _ (ns : List Name) where
  facts_among : (s : Spot) (o : Option Data) → AllAmong ns (names_set (gathered true s)) → AllAmong ns (names_changed (facts_of s o))
  facts_among (spot a (recs ss)) (Some (rec fs)) all = (all.0, subst (AllAmong ns) (same_facts a ss fs) all.1)
  facts_among s o all = tt

  answer_among : (m : ModuleData) (fs : Fields) → AllAmong ns (facts_named m) → AllAmong ns (names_changed (set_by_answer m fs))
  answer_among m fs all = by (is_setup m) all where
    by : (q : Bool) → AllAmong ns (cond q (names_set (gathered true (slot_at (codes "ansible_facts") (shape_slots m.ok)))) [])
        → AllAmong ns (names_changed (cond q (facts_of (slot_at (codes "ansible_facts") (shape_slots m.ok)) (field_value (codes "ansible_facts") fs)) no_changes))
    by true h = facts_among (slot_at (codes "ansible_facts") (shape_slots m.ok)) (field_value (codes "ansible_facts") fs) h
    by false h = tt

  own_among : (o : Own) (r : Admitted) → AllAmong ns (names_changed o.sets) → AdmittedAmong ns r → AdmittedAmong ns (with_own o r)
  own_among o (admitted os) all rest = (all, rest)
  own_among o breached all rest = tt
  own_among o unreached all rest = tt

  taken_among : (o : Option Data) (m : ModuleData) (x : AdmissionData) (r : Admitted) → AllAmong ns (facts_named m) → AdmittedAmong ns r → AdmittedAmong ns (own_of o m x (λ own. with_own own r))
  taken_among o m (taken (rec fs)) r all rest = own_among _ r (answer_among m fs all) rest
  taken_among o m (failed (rec fs)) r all rest = own_among _ r tt rest
  taken_among o m x r all rest = tt

  call_among : (o : Option Data) (a : Action) (xs : List Answer) (go : List Answer → Admitted) → AllAmong ns (action_names a) → ((ys : List Answer) → AdmittedAmong ns (go ys))
      → AdmittedAmong ns (admit_answer o a xs (λ own ys. with_own own (go ys)))
  call_among o a [] go all rest = tt
  call_among o (call_of m ps) (object d ∷ xs) go all rest = taken_among o m (admission m.ok m.failure d) (go xs) all (rest xs)
  call_among o a (unreachable ∷ xs) go all rest = tt
  call_among o a (x ∷ xs) go all rest = tt

  entry_among : (a : Action) (o : Option Data) (e : Entry) (go : List Answer → Admitted) (xs : List Answer) → AllAmong ns (action_names a) → EntryAmong ns e → ((ys : List Answer) → AdmittedAmong ns (go ys))
      → AdmittedAmong ns (admit_entry a o e go xs)
  entry_among a o skips go xs all here rest = own_among (skipped_own o) (go xs) tt (rest xs)
  entry_among a o (acts sh fs c) go xs all here rest = own_among (acted o sh fs c) (go xs) here (rest xs)
  entry_among a o (calls d) go xs all here rest = call_among o a xs go all rest

  pub admits_among : (a : Action) (ps : List Pass) (xs : List Answer) → AllAmong ns (action_names a) → PassesAmong ns ps → AdmittedAmong ns (admit_passes a ps xs)
  admits_among a [] xs all here = tt
  admits_among a (p ∷ ps) xs all here = entry_among a p.item p.entry (admit_passes a ps) xs all here.0 (λ ys. admits_among a ps ys all here.1)

  status_among : (o : Outcome) (go : Bool → Results) → ((b : Bool) → ResultsAmong ns (go b)) → ResultsAmong ns (with_status o go)
  status_among (value (boolean b)) go all = all b
  status_among (value d) go all = tt
  status_among (stuck s) go all = tt

  result_among : (e : Ended) (r : Results) → AllAmong ns (names_changed e.sets) → ResultsAmong ns r → ResultsAmong ns (with_ended e r)
  result_among e (results_are es) all rest = (all, rest)
  result_among e (no_results s) all rest = tt

  end_among : (w : World) (t : Task) (o : Own) (r : Results) → AllAmong ns (names_changed o.sets) → ResultsAmong ns r → ResultsAmong ns (end_own w t o r)
  end_among w t o r all rest = by (is_skipped o.shape) where
    judged : ResultsAmong ns (with_status (keyword_of (own_world w t o) t.changed_when (flag_is true (field_value (codes "changed") o.fields))) (λ c. with_status (keyword_of (own_world w t o) t.failed_when (flag_is true (field_value (codes "failed") o.fields))) (λ f. with_status (until_of (judged_world w t o c f) t.attempts) (λ u. with_ended (ended_with o c f u) r))))
    judged = status_among (keyword_of (own_world w t o) t.changed_when (flag_is true (field_value (codes "changed") o.fields))) _
        (λ c. status_among (keyword_of (own_world w t o) t.failed_when (flag_is true (field_value (codes "failed") o.fields))) _
        (λ f. status_among (until_of (judged_world w t o c f) t.attempts) _ (λ u. result_among (ended_with o c f u) r all rest)))

    by : (q : Bool) → ResultsAmong ns (cond q (with_ended (ended_with o false false true) r) (with_status (keyword_of (own_world w t o) t.changed_when (flag_is true (field_value (codes "changed") o.fields))) (λ c. with_status (keyword_of (own_world w t o) t.failed_when (flag_is true (field_value (codes "failed") o.fields))) (λ f. with_status (until_of (judged_world w t o c f) t.attempts) (λ u. with_ended (ended_with o c f u) r)))))
    by true = result_among (ended_with o false false true) r all rest
    by false = judged

  pub ends_among : (w : World) (t : Task) (os : List Own) → OwnsAmong ns os → ResultsAmong ns (end_all w t os)
  ends_among w t [] all = tt
  ends_among w t (o ∷ os) all = end_among w t o (end_all w t os) all.0 (ends_among w t os all.1)

  attempt_among : (e : Ended) → AllAmong ns (names_changed e.sets) → AllAmong ns (names_changed (last_attempt e).sets)
  attempt_among e all = by e.holds where
    by : (q : Bool) → AllAmong ns (names_changed (cond q e (record e { fields = with_statuses e.changed true e.fields; failed = true })).sets)
    by true = all
    by false = all

  pub last_among : (es : List Ended) → EndedAmong ns es → EndedAmong ns (last_attempts es)
  last_among [] all = tt
  last_among (e ∷ es) all = (attempt_among e all.0, last_among es all.1)

  change_among : (n : Name) (o : Option Data) (vars : Fields) → is_among n ns ≡ true → AllAmong ns (keys_of vars) → AllAmong ns (keys_of (with_change n o vars))
  change_among n None vars h all = all
  change_among n (Some d) vars h all = put_among ns n d vars h all

  changed_among : (c : Changes) (vars : Fields) → AllAmong ns (names_changed c) → AllAmong ns (keys_of vars) → AllAmong ns (keys_of (with_changes c vars))
  changed_among no_changes vars h all = all
  changed_among (change n o c) vars h all = changed_among c (with_change n o vars) h.1 (change_among n o vars h.0 all)

  sets_among : (es : List Ended) (vars : Fields) → EndedAmong ns es → AllAmong ns (keys_of vars) → AllAmong ns (keys_of (with_all_sets es vars))
  sets_among [] vars h all = all
  sets_among (e ∷ es) vars h all = sets_among es (with_changes e.sets vars) h.1 (changed_among e.sets vars h.0 all)

  register_among : (o : Option Name) (d : Data) (vars : Fields) → AllAmong ns (option_names o) → AllAmong ns (keys_of vars) → AllAmong ns (keys_of (register_field o d vars))
  register_among None d vars h all = all
  register_among (Some n) d vars h all = put_among ns n d vars h.0 all

  pub writes_among : (t : Task) (es : List Ended) (vars : Fields) → AllAmong ns (option_names t.register) → EndedAmong ns es → AllAmong ns (keys_of vars) → AllAmong ns (keys_of (written_variables t es vars))
  writes_among t es vars named h all = by (any_failed es && not t.ignores) where
    registered : AllAmong ns (keys_of (register_field t.register (rec (registered_fields t.loop es)) vars))
    registered = register_among t.register (rec (registered_fields t.loop es)) vars named all

    by : (q : Bool) → AllAmong ns (keys_of (cond q (register_field t.register (rec (registered_fields t.loop es)) vars) (with_all_sets es (register_field t.register (rec (registered_fields t.loop es)) vars))))
    by true = registered
    by false = sets_among es (register_field t.register (rec (registered_fields t.loop es)) vars) h registered
