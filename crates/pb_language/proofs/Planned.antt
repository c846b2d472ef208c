-- What a Start comes to is derived by the rules, and nothing else is; and a step of the machine does just that.
use Rattle.std.proofs.Common.{◌≡◌, ℕ, List, [], Bool, true, false, cond, Option, Some, None, codes, refl, sym, ap, subst, ◌∙◌}
use Rattle.pb_semantics.specs.Data.{Data, Items, null, boolean, int, text, list, rec, opaque, no_items, item}
use Rattle.pb_semantics.specs.Keeps.{keeps}
use Rattle.pb_semantics.specs.Kind.{ok_shape, failure_shape}
use Rattle.pb_semantics.specs.Signature.{ParameterData}
use Rattle.pb_semantics.proofs.Bools.{untrue}
use Rattle.pb_language.specs.Expression.{Name, Expression, Expressions, Parts, no_parts, part}
use Rattle.pb_language.specs.World.{World}
use Rattle.pb_language.specs.Evaluation.{Stuck, wrong_sort, Outcome, value, stuck, then_go, only_boolean, put_part, given, eval, eval_all, eval_parts}
use Rattle.pb_language.specs.Evaluates.{is_truth_value, is_text, is_list, is_unreadable, Evaluates, All, Chooses, Records}
use Rattle.pb_language.specs.Judgement.{parameter_kind}
use Rattle.pb_language.specs.Machine.{start, Host, State, happened, on_host, on_start, on_plan, step, world_of}
use Rattle.pb_language.specs.Program.{Batch}
use Rattle.pb_language.specs.Rest.{Rest}
use Rattle.pb_language.specs.Start.{Plan, planned, halted, Made, made, unmade, made_with, kept_argument, eval_arguments, only_text, eval_text_or, asserted, set_by, unchanged, unchanged_with, no_changes, acts, calls, eval_action, on_condition, eval_item, with_local_item, with_pass, plan_items, plan_loop}
use Rattle.pb_language.specs.StartRules.{Gives, no_argument, argument_then, later_argument_stuck, argument_of_wrong_kind, argument_not_readable, argument_stuck, Says, as_it_is, given_text, given_no_text, given_stuck, Does, calls_it, call_stuck, shows, shows_stuck, sets_them, sets_stuck, holds, fails_to_hold, assertion_stuck, assertion_text_stuck, fails, failure_text_stuck, Passes, skipped, done, condition_stuck, PassesEach, no_item, item_then, later_item_stuck, item_stuck, Starts, once, once_stuck, for_each, over_no_list, loop_stuck, PlansAreDerived, DerivedArePlans, CanStart, StuckStartMarks, StartHandsOut}
use Rattle.pb_language.specs.Task.{Action, call_of, debug, set_fact, assertion, failure_of, Task}
use Rattle.pb_language.proofs.Evaluated.{derived, all_derived, parts_derived, chosen_derived, only_all, is_record_outcome, recorded_is_record, put_is_record}
use Rattle.pb_language.proofs.Determined.{determined, all_determined, parts_determined, chosen, field_is_put, field_is_stuck}

-- the arguments
argument_put : (w : World) (ps : List ParameterData) (n : Name) (e : Expression) (qs : Parts) (d : Data) (q r : Bool) (p : Outcome) → Evaluates w e (value d) → keeps d (parameter_kind n ps) ≡ q → is_unreadable d ≡ r → Gives w ps qs p → is_record_outcome p ≡ true
    → Gives w ps (part n e qs) (kept_argument q n d p)
argument_put w ps n e qs d false r p h k u i s = argument_of_wrong_kind h k
argument_put w ps n e qs opaque true r p h k u i s = argument_not_readable h
argument_put w ps n e qs null true r (value (rec fs)) h k u i s = argument_then h refl k i
argument_put w ps n e qs (boolean b) true r (value (rec fs)) h k u i s = argument_then h refl k i
argument_put w ps n e qs (int z) true r (value (rec fs)) h k u i s = argument_then h refl k i
argument_put w ps n e qs (text t) true r (value (rec fs)) h k u i s = argument_then h refl k i
argument_put w ps n e qs (list xs) true r (value (rec fs)) h k u i s = argument_then h refl k i
argument_put w ps n e qs (rec gs) true r (value (rec fs)) h k u i s = argument_then h refl k i
argument_put w ps n e qs d true r (value x) h k u i s = untrue s
argument_put w ps n e qs null true r (stuck y) h k u i s = later_argument_stuck h refl k i
argument_put w ps n e qs (boolean b) true r (stuck y) h k u i s = later_argument_stuck h refl k i
argument_put w ps n e qs (int z) true r (stuck y) h k u i s = later_argument_stuck h refl k i
argument_put w ps n e qs (text t) true r (stuck y) h k u i s = later_argument_stuck h refl k i
argument_put w ps n e qs (list xs) true r (stuck y) h k u i s = later_argument_stuck h refl k i
argument_put w ps n e qs (rec gs) true r (stuck y) h k u i s = later_argument_stuck h refl k i

argument_step : (w : World) (ps : List ParameterData) (n : Name) (e : Expression) (qs : Parts) (o p : Outcome) → Evaluates w e o → Gives w ps qs p → is_record_outcome p ≡ true
    → Gives w ps (part n e qs) (then_go o (λ d. kept_argument (keeps d (parameter_kind n ps)) n d p))
argument_step w ps n e qs (value d) p h i s = argument_put w ps n e qs d (keeps d (parameter_kind n ps)) (is_unreadable d) p h refl refl i s
argument_step w ps n e qs (stuck y) p h i s = argument_stuck h

kept_is_record : (q : Bool) (n : Name) (d : Data) (o : Outcome) → is_record_outcome (kept_argument q n d o) ≡ true
kept_is_record true n d o = put_is_record n d o
kept_is_record false n d o = refl

arguments_are_record : (w : World) (ps : List ParameterData) (qs : Parts) → is_record_outcome (eval_arguments w ps qs) ≡ true
arguments_are_record w ps no_parts = refl
arguments_are_record w ps (part n e qs) = first (eval w e) where
  first : (o : Outcome) → is_record_outcome (then_go o (λ d. kept_argument (keeps d (parameter_kind n ps)) n d (eval_arguments w ps qs))) ≡ true
  first (value d) = kept_is_record (keeps d (parameter_kind n ps)) n d (eval_arguments w ps qs)
  first (stuck y) = refl

gives : (w : World) (ps : List ParameterData) (qs : Parts) → Gives w ps qs (eval_arguments w ps qs)
gives w ps no_parts = no_argument
gives w ps (part n e qs) = argument_step w ps n e qs (eval w e) (eval_arguments w ps qs) (derived w e) (gives w ps qs) (arguments_are_record w ps qs)

-- the actions
says_given : (w : World) (s : List ℕ) (e : Expression) (o : Outcome) → Evaluates w e o → Says w s (Some e) (then_go o only_text)
says_given w s e (value (text t)) h = given_text h
says_given w s e (value d) h = given_no_text h refl
says_given w s e (stuck y) h = given_stuck h

says : (w : World) (s : List ℕ) (o : Option Expression) → Says w s o (eval_text_or w s o)
says w s None = as_it_is
says w s (Some e) = says_given w s e (eval w e) (derived w e)

-- a list of conditions comes to a truth value
abbrev pub is_truth_outcome : Outcome → Bool
is_truth_outcome (value d) = is_truth_value d
is_truth_outcome (stuck y) = true

only_truth : (o : Outcome) → is_truth_outcome (then_go o only_boolean) ≡ true
only_truth (value (boolean b)) = refl
only_truth (value d) = refl
only_truth (stuck y) = refl

pub all_is_truth : (w : World) (es : Expressions) → is_truth_outcome (eval_all w es) ≡ true
all_is_truth w es = ap is_truth_outcome (sym (only_all w es)) ∙ only_truth (eval_all w es)

call_derived : (w : World) (a : Action) (o : Outcome) → ((d : Data) → o ≡ value d → Does w a (made (calls d))) → ((y : Stuck) → o ≡ stuck y → Does w a (unmade y)) → Does w a (made_with o (λ d. made (calls d)))
call_derived w a (value d) f g = f d refl
call_derived w a (stuck y) f g = g y refl

shown_derived : (w : World) (e : Expression) (o : Outcome) → Chooses w e o → Does w (debug e) (made_with o (λ d. made (acts ok_shape unchanged no_changes)))
shown_derived w e (value d) h = shows h
shown_derived w e (stuck y) h = shows_stuck h

set_derived : (w : World) (ps : Parts) (o : Outcome) → Records w ps o → is_record_outcome o ≡ true → Does w (set_fact ps) (made_with o set_by)
set_derived w ps (value (rec fs)) h s = sets_them h
set_derived w ps (value d) h s = untrue s
set_derived w ps (stuck y) h s = sets_stuck h

that_derived : (w : World) (es : Expressions) (o : Option Expression) (m : Data) (p : Outcome) → Says w (codes "Assertion failed") o (value m) → All w es p → is_truth_outcome p ≡ true → Does w (assertion es o) (made_with p (asserted m))
that_derived w es o m (value (boolean true)) h i s = holds h i
that_derived w es o m (value (boolean false)) h i s = fails_to_hold h i
that_derived w es o m (value d) h i s = untrue s
that_derived w es o m (stuck y) h i s = assertion_stuck h i

assertion_derived : (w : World) (es : Expressions) (o : Option Expression) (p : Outcome) → Says w (codes "Assertion failed") o p → Does w (assertion es o) (made_with p (λ m. made_with (eval_all w es) (asserted m)))
assertion_derived w es o (value m) h = that_derived w es o m (eval_all w es) h (all_derived w es) (all_is_truth w es)
assertion_derived w es o (stuck y) h = assertion_text_stuck h

failure_derived : (w : World) (o : Option Expression) (p : Outcome) → Says w (codes "Failed as requested from task") o p → Does w (failure_of o) (made_with p (λ m. made (acts failure_shape (unchanged_with m) no_changes)))
failure_derived w o (value m) h = fails h
failure_derived w o (stuck y) h = failure_text_stuck h

does : (w : World) (a : Action) → Does w a (eval_action w a)
does w (call_of m ps) =
    call_derived w (call_of m ps) (eval_arguments w m.params ps) (λ d e. calls_it (subst (Gives w m.params ps) e (gives w m.params ps))) (λ y e. call_stuck (subst (Gives w m.params ps) e (gives w m.params ps)))
does w (debug e) = shown_derived w e (then_go (eval w e) given) (chosen_derived w e (eval w e) (derived w e))
does w (set_fact ps) = set_derived w ps (eval_parts w ps) (parts_derived w ps) (recorded_is_record w ps)
does w (assertion es o) = assertion_derived w es o (eval_text_or w (codes "Assertion failed") o) (says w (codes "Assertion failed") o)
does w (failure_of o) = failure_derived w o (eval_text_or w (codes "Failed as requested from task") o) (says w (codes "Failed as requested from task") o)

-- items and loops
passes_on : (w : World) (t : Task) (o : Outcome) → All w t.conditions o → is_truth_outcome o ≡ true → Passes w t (made_with o (on_condition (eval_action w t.action)))
passes_on w t (value (boolean true)) h s = done h (does w t.action)
passes_on w t (value (boolean false)) h s = skipped h
passes_on w t (value d) h s = untrue s
passes_on w t (stuck y) h s = condition_stuck h

passes : (w : World) (t : Task) → Passes w t (eval_item w t)
passes w t = passes_on w t (eval_all w t.conditions) (all_derived w t.conditions) (all_is_truth w t.conditions)

pass_then : (w : World) (t : Task) (d : Data) (ds : Items) (m : Made) (p : Plan) → Passes (with_local_item w (Some d)) t m → PassesEach w t ds p → PassesEach w t (item d ds) (with_pass (Some d) m p)
pass_then w t d ds (unmade y) p h i = item_stuck h
pass_then w t d ds (made x) (halted y) h i = later_item_stuck h i
pass_then w t d ds (made x) (planned ps) h i = item_then h i

each_passes : (w : World) (t : Task) (ds : Items) → PassesEach w t ds (plan_items w t ds)
each_passes w t no_items = no_item
each_passes w t (item d ds) = pass_then w t d ds (eval_item (with_local_item w (Some d)) t) (plan_items w t ds) (passes (with_local_item w (Some d)) t) (each_passes w t ds)

once_derived : (w : World) (t : Task) (m : Made) → Passes w t m → Starts w t None (with_pass None m (planned []))
once_derived w t (unmade y) h = once_stuck h
once_derived w t (made x) h = once h

loop_derived : (w : World) (t : Task) (e : Expression) (o : Outcome) → Evaluates w e o → Starts w t (Some e) (plan_loop w t o)
loop_derived w t e (value (list ds)) h = for_each h (each_passes w t ds)
loop_derived w t e (value d) h = over_no_list h refl
loop_derived w t e (stuck y) h = loop_stuck h

pub plans_are_derived : PlansAreDerived
plans_are_derived w t None = once_derived w t (eval_item w t) (passes w t)
plans_are_derived w t (Some e) = loop_derived w t e (eval w e) (derived w e)

-- and in no other way
given_is : (w : World) (ps : List ParameterData) (qs : Parts) (o : Outcome) → Gives w ps qs o → eval_arguments w ps qs ≡ o
given_is w ps qs o no_argument = refl
given_is w ps qs o (argument_then {n = n} {e = e} {qs = later} {d = d} {fs = fs} h u k i) =
    ap (λ p. then_go p (λ x. kept_argument (keeps x (parameter_kind n ps)) n x (eval_arguments w ps later))) (determined w e (value d) h)
    ∙ ap (λ q. kept_argument q n d (eval_arguments w ps later)) k ∙ ap (put_part n d) (given_is w ps later (value (rec fs)) i) ∙ field_is_put n d fs u
given_is w ps qs o (later_argument_stuck {n = n} {e = e} {qs = later} {d = d} {y = y} h u k i) =
    ap (λ p. then_go p (λ x. kept_argument (keeps x (parameter_kind n ps)) n x (eval_arguments w ps later))) (determined w e (value d) h)
    ∙ ap (λ q. kept_argument q n d (eval_arguments w ps later)) k ∙ ap (put_part n d) (given_is w ps later (stuck y) i) ∙ field_is_stuck n d y u
given_is w ps qs o (argument_of_wrong_kind {n = n} {e = e} {qs = later} {d = d} h k) =
    ap (λ p. then_go p (λ x. kept_argument (keeps x (parameter_kind n ps)) n x (eval_arguments w ps later))) (determined w e (value d) h)
    ∙ ap (λ q. kept_argument q n d (eval_arguments w ps later)) k
given_is w ps qs o (argument_not_readable {n = n} {e = e} {qs = later} h) =
    ap (λ p. then_go p (λ x. kept_argument (keeps x (parameter_kind n ps)) n x (eval_arguments w ps later))) (determined w e (value opaque) h)
    ∙ opaque_argument (keeps opaque (parameter_kind n ps)) n (eval_arguments w ps later) where
      opaque_argument : (q : Bool) (n : Name) (p : Outcome) → kept_argument q n opaque p ≡ stuck wrong_sort
      opaque_argument true n p = refl
      opaque_argument false n p = refl
given_is w ps qs o (argument_stuck {n = n} {e = e} {qs = later} {y = y} h) =
    ap (λ p. then_go p (λ x. kept_argument (keeps x (parameter_kind n ps)) n x (eval_arguments w ps later))) (determined w e (stuck y) h)

no_text_given : (d : Data) → is_text d ≡ false → only_text d ≡ stuck wrong_sort
no_text_given (text t) i = untrue (sym i)
no_text_given d i = refl

said_is : (w : World) (s : List ℕ) (x : Option Expression) (o : Outcome) → Says w s x o → eval_text_or w s x ≡ o
said_is w s x o as_it_is = refl
said_is w s x o (given_text {e = e} {t = t} h) = ap (λ p. then_go p only_text) (determined w e (value (text t)) h)
said_is w s x o (given_no_text {e = e} {d = d} h i) = ap (λ p. then_go p only_text) (determined w e (value d) h) ∙ no_text_given d i
said_is w s x o (given_stuck {e = e} {y = y} h) = ap (λ p. then_go p only_text) (determined w e (stuck y) h)

asserted_is : (w : World) (es : Expressions) (x : Option Expression) (m : Data) (p : Outcome) → Says w (codes "Assertion failed") x (value m) → All w es p → eval_action w (assertion es x) ≡ made_with p (asserted m)
asserted_is w es x m p h i =
    ap (λ o. made_with o (λ d. made_with (eval_all w es) (asserted d))) (said_is w (codes "Assertion failed") x (value m) h) ∙ ap (λ o. made_with o (asserted m)) (all_determined w es p i)

done_is : (w : World) (a : Action) (m : Made) → Does w a m → eval_action w a ≡ m
done_is w a m (calls_it {m = x} {ps = ps} {d = d} h) = ap (λ o. made_with o (λ v. made (calls v))) (given_is w x.params ps (value d) h)
done_is w a m (call_stuck {m = x} {ps = ps} {y = y} h) = ap (λ o. made_with o (λ v. made (calls v))) (given_is w x.params ps (stuck y) h)
done_is w a m (shows {e = e} {d = d} h) = ap (λ o. made_with o (λ v. made (acts ok_shape unchanged no_changes))) (chosen w e (value d) h)
done_is w a m (shows_stuck {e = e} {y = y} h) = ap (λ o. made_with o (λ v. made (acts ok_shape unchanged no_changes))) (chosen w e (stuck y) h)
done_is w a m (sets_them {ps = ps} {fs = fs} h) = ap (λ o. made_with o set_by) (parts_determined w ps (value (rec fs)) h)
done_is w a m (sets_stuck {ps = ps} {y = y} h) = ap (λ o. made_with o set_by) (parts_determined w ps (stuck y) h)
done_is w a m (holds {es = es} {o = x} {m = d} h i) = asserted_is w es x d (value (boolean true)) h i
done_is w a m (fails_to_hold {es = es} {o = x} {m = d} h i) = asserted_is w es x d (value (boolean false)) h i
done_is w a m (assertion_stuck {es = es} {o = x} {m = d} {y = y} h i) = asserted_is w es x d (stuck y) h i
done_is w a m (assertion_text_stuck {es = es} {o = x} {y = y} h) = ap (λ o. made_with o (λ d. made_with (eval_all w es) (asserted d))) (said_is w (codes "Assertion failed") x (stuck y) h)
done_is w a m (fails {o = x} {m = d} h) = ap (λ o. made_with o (λ v. made (acts failure_shape (unchanged_with v) no_changes))) (said_is w (codes "Failed as requested from task") x (value d) h)
done_is w a m (failure_text_stuck {o = x} {y = y} h) = ap (λ o. made_with o (λ v. made (acts failure_shape (unchanged_with v) no_changes))) (said_is w (codes "Failed as requested from task") x (stuck y) h)

passed_is : (w : World) (t : Task) (m : Made) → Passes w t m → eval_item w t ≡ m
passed_is w t m (skipped h) = ap (λ o. made_with o (on_condition (eval_action w t.action))) (all_determined w t.conditions (value (boolean false)) h)
passed_is w t m (done h i) = ap (λ o. made_with o (on_condition (eval_action w t.action))) (all_determined w t.conditions (value (boolean true)) h) ∙ done_is w t.action m i
passed_is w t m (condition_stuck {y = y} h) = ap (λ o. made_with o (on_condition (eval_action w t.action))) (all_determined w t.conditions (stuck y) h)

each_is : (w : World) (t : Task) (ds : Items) (p : Plan) → PassesEach w t ds p → plan_items w t ds ≡ p
each_is w t ds p no_item = refl
each_is w t ds p (item_then {d = d} {ds = later} {x = x} {ps = ps} h i) =
    ap (λ m. with_pass (Some d) m (plan_items w t later)) (passed_is (with_local_item w (Some d)) t (made x) h) ∙ ap (with_pass (Some d) (made x)) (each_is w t later (planned ps) i)
each_is w t ds p (later_item_stuck {d = d} {ds = later} {x = x} {y = y} h i) =
    ap (λ m. with_pass (Some d) m (plan_items w t later)) (passed_is (with_local_item w (Some d)) t (made x) h) ∙ ap (with_pass (Some d) (made x)) (each_is w t later (halted y) i)
each_is w t ds p (item_stuck {d = d} {ds = later} {y = y} h) = ap (λ m. with_pass (Some d) m (plan_items w t later)) (passed_is (with_local_item w (Some d)) t (unmade y) h)

no_list_looped : (w : World) (t : Task) (d : Data) → is_list d ≡ false → plan_loop w t (value d) ≡ halted wrong_sort
no_list_looped w t (list ds) i = untrue (sym i)
no_list_looped w t d i = refl

pub derived_are_plans : DerivedArePlans
derived_are_plans w t x p (once {x = y} h) = ap (λ m. with_pass None m (planned [])) (passed_is w t (made y) h)
derived_are_plans w t x p (once_stuck {y = y} h) = ap (λ m. with_pass None m (planned [])) (passed_is w t (unmade y) h)
derived_are_plans w t x p (for_each {e = e} {ds = ds} h i) = ap (plan_loop w t) (determined w e (value (list ds)) h) ∙ each_is w t ds p i
derived_are_plans w t x p (over_no_list {e = e} {d = d} h i) = ap (plan_loop w t) (determined w e (value d) h) ∙ no_list_looped w t d i
derived_are_plans w t x p (loop_stuck {e = e} {y = y} h) = ap (plan_loop w t) (determined w e (stuck y) h)

-- a step of the machine
started : (s : State) (b : Batch) (bs : List Batch) (k : ℕ) (h : Host) (t : Task) (going failing : Rest) (p : Plan) → CanStart s b bs k h t going failing → Starts (world_of s b h t) t t.loop p
    → step s (start k) ≡ on_plan s k h t going failing p
started s b bs k h t going failing p c d =
    ap (λ q. cond q (happened s s.batches (start k)) s) c.enabled
    ∙ ap (λ xs. happened s xs (start k)) c.batch
    ∙ ap (λ o. on_host s o (λ x. on_start s b k x x.stage)) c.host
    ∙ ap (on_start s b k h) c.next
    ∙ ap (on_plan s k h t going failing) (derived_are_plans (world_of s b h t) t t.loop p d)

pub stuck_start_marks : StuckStartMarks
stuck_start_marks s b bs k h t going failing y c d = started s b bs k h t going failing (halted y) c d

pub start_hands_out : StartHandsOut
start_hands_out s b bs k h t going failing ps c d = started s b bs k h t going failing (planned ps) c d
