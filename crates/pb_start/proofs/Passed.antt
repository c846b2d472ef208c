-- What comes of an item, and the passes of a plan from the first to the last.
use Rattle.std.proofs.Common.{◌≡◌, List, [], ◌∷◌, ◌++◌, true, false, Option, None, codes, refl, sym, ap, ◌∙◌, append_assoc}
use Rattle.std.proofs.lemmas.List.{append-nil}
use Rattle.pb_semantics.specs.Data.{Data, boolean, text}
use Rattle.pb_semantics.specs.Kind.{ok_shape, failure_shape}
use Rattle.pb_language.specs.Evaluation.{Outcome, value, stuck, then_go}
use Rattle.pb_language.specs.Evaluation.{eval_all}
use Rattle.pb_language.specs.Expansion.{all_expanded}
use Rattle.pb_language.specs.Task.{Task}
use Rattle.pb_language.specs.World.{World}
use Rattle.pb_language.specs.Start.{eval_action, eval_item, plan_loop}
use Rattle.pb_start.specs.declared.prepared.Prepared.{Prepared}
use Rattle.pb_language.specs.Start as language
use Rattle.pb_language.specs.Start.{only_text, Plan, planned, halted, Made, made, unmade, made_with, skips, calls, acts, no_changes, unchanged_with, asserted, on_condition, with_pass}
use Rattle.pb_value.specs.View.{truth}
use Rattle.pb_eval.specs.OwnWorld.{shown}
use Rattle.pb_syntax.specs.ExprView.{exprs_view}
use Rattle.pb_start.specs.Actions.{action_view}
use Rattle.pb_start.specs.Conditions.{is_so}
use Rattle.pb_start.specs.Prepared.{Prepares, trees_of}
use Rattle.pb_start.specs.Passes.{IsMade, IsValue, ArePlanned, entry_view}
use Rattle.pb_start.specs.declared.passes.Entry.{Entry}
use Rattle.pb_start.specs.declared.passes.Pass.{Pass}

-- passes before those of a plan
abbrev pub after_passes : List language.Pass → Plan → Plan
after_passes done (planned ps) = planned (done ++ ps)
after_passes done (halted s) = halted s

pub passes-first : (p : Plan) → after_passes [] p ≡ p
passes-first (planned ps) = refl
passes-first (halted s) = refl

pub passes-step : (done : List language.Pass) (o : Option Data) (m : Made) (e : Entry) (p : Plan) (qs : List language.Pass) → IsMade e m → after_passes done (with_pass o m p) ≡ planned qs
    → after_passes (done ++ record { item = o; entry = entry_view e } ∷ []) p ≡ planned qs
passes-step done o (unmade s) e p qs h is = absurd (cc)
passes-step done o (made x) e (halted s) qs h is = absurd (cc)
passes-step done o (made x) e (planned ps) qs h is =
    ap planned (append_assoc done (record { item = o; entry = entry_view e } ∷ []) ps)
    ∙ ap (λ y. planned (done ++ record { item = o; entry = y } ∷ ps)) (h x refl) ∙ is

pub passes-done : (done qs : List language.Pass) → after_passes done (planned []) ≡ planned qs → done ≡ qs
passes-done done qs is = let same : planned done ≡ planned qs = ap planned (sym (append-nil done)) ∙ is in cc

pub passes-alone : (m : Made) (e : Entry) (qs : List language.Pass) → IsMade e m → with_pass None m (planned []) ≡ planned qs → record { item = None; entry = entry_view e } ∷ [] ≡ qs
passes-alone (unmade s) e qs h is = absurd (cc)
passes-alone (made x) e qs h is = ap (λ y. record { item = None; entry = y } ∷ []) (h x refl) ∙ let same : record { item = None; entry = x } ∷ [] ≡ qs = cc in same

-- what comes of an item where its conditions hold, and where one doesn't
pub made-true : (o : Outcome) (m : Made) (e : Entry) → is_so (truth (shown o)) ≡ true → IsMade e m → IsMade e (made_with o (on_condition m))
made-true (stuck s) m e told h = absurd (cc)
made-true (value (boolean true)) m e told h = h
made-true (value (boolean false)) m e told h = absurd (cc)
made-true (value d) m e told h = absurd (cc)

pub made-skips : (o : Outcome) (m : Made) (x : language.Entry) → is_so (truth (shown o)) ≡ false → made_with o (on_condition m) ≡ made x → skips ≡ x
made-skips (stuck s) m x told h = absurd (cc)
made-skips (value (boolean true)) m x told h = absurd (cc)
made-skips (value (boolean false)) m x told h = cc
made-skips (value d) m x told h = absurd (cc)

-- of an action
pub made-by : (o : Outcome) (d : Data) (g : Data → Made) (e : Entry) → d ≡ shown o → IsMade e (g d) → IsMade e (made_with o g)
made-by (stuck s) d g e told h = λ x is. absurd (cc)
made-by (value y) d g e told h = λ x is. h x (ap g told ∙ is)

pub made-call : (o u : Outcome) (d : Data) (x : language.Entry) → ((r : Data) → o ≡ value r → u ≡ value r) → d ≡ shown u → made_with o (λ y. made (calls y)) ≡ made x → calls d ≡ x
made-call (stuck s) u d x f told is = absurd (cc)
made-call (value y) u d x f told is = ap calls (told ∙ ap shown (f y refl)) ∙ let same : calls y ≡ x = cc in same

pub made-fixed : (o : Outcome) (y x : language.Entry) → made_with o (λ d. made y) ≡ made x → y ≡ x
made-fixed (stuck s) y x is = absurd (cc)
made-fixed (value d) y x is = cc

pub assert-true : (o p : Outcome) (m : Data) (x : language.Entry) → is_so (truth (shown p)) ≡ true → m ≡ text (codes "All assertions passed") → made_with o (λ m. made_with p (asserted m)) ≡ made x → acts ok_shape (unchanged_with m) no_changes ≡ x
assert-true (stuck s) p m x told is h = absurd (cc)
assert-true (value d) (stuck s) m x told is h = absurd (cc)
assert-true (value d) (value (boolean true)) m x told is h = ap (λ y. acts ok_shape (unchanged_with y) no_changes) is ∙ let same : acts ok_shape (unchanged_with (text (codes "All assertions passed"))) no_changes ≡ x = cc in same
assert-true (value d) (value (boolean false)) m x told is h = absurd (cc)
assert-true (value d) (value e) m x told is h = absurd (cc)

pub assert-false : (o p : Outcome) (d : Data) (x : language.Entry) → is_so (truth (shown p)) ≡ false → IsValue d o → made_with o (λ m. made_with p (asserted m)) ≡ made x → acts failure_shape (unchanged_with d) no_changes ≡ x
assert-false (stuck s) p d x told is h = absurd (cc)
assert-false (value m) (stuck s) d x told is h = absurd (cc)
assert-false (value m) (value (boolean true)) d x told is h = absurd (cc)
assert-false (value m) (value (boolean false)) d x told is h = ap (λ y. acts failure_shape (unchanged_with y) no_changes) (is m refl) ∙ let same : acts failure_shape (unchanged_with m) no_changes ≡ x = cc in same
assert-false (value m) (value e) d x told is h = absurd (cc)

pub made-says : (o : Outcome) (d : Data) (x : language.Entry) → IsValue d o → made_with o (λ m. made (acts failure_shape (unchanged_with m) no_changes)) ≡ made x → acts failure_shape (unchanged_with d) no_changes ≡ x
made-says (stuck s) d x is h = absurd (cc)
made-says (value m) d x is h = ap (λ y. acts failure_shape (unchanged_with y) no_changes) (is m refl) ∙ let same : acts failure_shape (unchanged_with m) no_changes ≡ x = cc in same

pub text-value : (o : Outcome) (d : Data) → d ≡ shown o → IsValue d (then_go o only_text)
text-value (stuck s) d told = λ x is. absurd (cc)
text-value (value (text s)) d told = λ x is. told ∙ let same : text s ≡ x = cc in same
text-value (value e) d told = λ x is. absurd (cc)

-- what a prepared task's conditions are worth, and what its action makes
abbrev pub conditions_worth : World → Prepared → Outcome
conditions_worth w p = eval_all w (all_expanded (trees_of p) (exprs_view p.conditions.items))

abbrev pub action_made : World → Prepared → Made
action_made w p = eval_action w (action_view (trees_of p) p.action)

-- what comes of the task that it prepares
pub item-made : (p : Prepared) (t : Task) (w : World) (e : Entry) → Prepares p t → is_so (truth (shown (conditions_worth w p))) ≡ true
    → IsMade e (action_made w p) → IsMade e (eval_item w t)
item-made p t w e s told h = λ x is. made-true (conditions_worth w p) (action_made w p) e told h x (rw (s.conditions, s.action) at is)

pub item-skips : (p : Prepared) (t : Task) (w : World) (x : language.Entry) → Prepares p t → is_so (truth (shown (conditions_worth w p))) ≡ false
    → eval_item w t ≡ made x → skips ≡ x
item-skips p t w x s told is = made-skips (conditions_worth w p) (action_made w p) x told (rw (s.conditions, s.action) at is)

-- a loop's list, where it has a value
pub loop-shown : (w : World) (t : Task) (o : Outcome) (d : Data) (ps : List Pass) → d ≡ shown o → ArePlanned ps (plan_loop w t (value d)) → ArePlanned ps (plan_loop w t o)
loop-shown w t (value e) d ps told h = λ qs is. h qs (ap (λ x. plan_loop w t (value x)) told ∙ is)
loop-shown w t (stuck s) d ps told h = λ qs is. absurd (cc)
