-- Results that end one after the other.
use Rattle.std.proofs.Common.{◌≡◌, List, [], ◌∷◌, ◌++◌, Bool, true, false, Option, None, Some, codes, refl, sym, ap, ◌∙◌, append_assoc}
use Rattle.std.proofs.lemmas.Bool.{and_parts}
use Rattle.std.proofs.lemmas.List.{append-nil}
use Rattle.pb_semantics.specs.Data.{Data, Fields, boolean, rec, field_value}
use Rattle.pb_semantics.specs.Keeps.{flag_is}
use Rattle.pb_semantics.specs.Kind.{is_skipped}
use Rattle.pb_language.specs.Expression.{Name}
use Rattle.pb_language.specs.World.{World}
use Rattle.pb_language.specs.Evaluation.{Outcome, value, stuck}
use Rattle.pb_language.specs.Give as language
use Rattle.pb_language.specs.Give.{keyword_of, own_world, result_world, judged_world, until_of, with_own_field, ended_with, end_own}
use Rattle.pb_language.specs.Give.{Results, results_are, no_results, with_status, with_ended, all_hold, last_attempt, last_attempts, asks_again, retries_of}
use Rattle.pb_language.specs.Task.{Task}
use Rattle.pb_value.specs.View.{truth}
use Rattle.pb_eval.specs.OwnWorld.{shown}
use Rattle.pb_start.specs.Conditions.{is_so}
use Rattle.pb_start.specs.Locals.{world_with}
use Rattle.pb_finish.proofs.SameFields.{same-flag}
use Rattle.pb_finish.specs.Endings.{IsEnded, IsFlag, final_view}
use Rattle.pb_finish.specs.declared.statuses.FinalResult.{FinalResult}

-- results before others
abbrev pub after_ended : List language.Ended → Results → Results
after_ended done (results_are es) = results_are (done ++ es)
after_ended done (no_results s) = no_results s

pub ended-first : (rs : Results) → after_ended [] rs ≡ rs
ended-first (results_are es) = refl
ended-first (no_results s) = refl

ended-put : (done : List language.Ended) (e : language.Ended) (rs : Results) (ys xs : List language.Ended) → with_ended e rs ≡ results_are ys → results_are (done ++ ys) ≡ results_are xs
    → after_ended (done ++ e ∷ []) rs ≡ results_are xs
ended-put done e (results_are es) ys xs h is = let same : e ∷ es ≡ ys = cc in ap results_are (append_assoc done (e ∷ []) es ∙ ap (λ zs. done ++ zs) same) ∙ is
ended-put done e (no_results s) ys xs h is = absurd (cc)

ended-by : (done : List language.Ended) (e : FinalResult) (f : Results → Results) (rs r : Results) (xs : List language.Ended) → IsEnded e f → f rs ≡ r → after_ended done r ≡ results_are xs
    → after_ended (done ++ final_view e ∷ []) rs ≡ results_are xs
ended-by done e f rs (results_are ys) xs h same is = ended-put done (final_view e) rs ys xs (h rs ys same) is
ended-by done e f rs (no_results s) xs h same is = absurd (cc)

pub ended-step : (done : List language.Ended) (e : FinalResult) (f : Results → Results) (rs : Results) (xs : List language.Ended) → IsEnded e f → after_ended done (f rs) ≡ results_are xs
    → after_ended (done ++ final_view e ∷ []) rs ≡ results_are xs
ended-step done e f rs xs h is = ended-by done e f rs (f rs) xs h refl is

pub ended-done : (done xs : List language.Ended) → after_ended done (results_are []) ≡ results_are xs → done ≡ xs
ended-done done xs is = let same : results_are done ≡ results_are xs = ap results_are (sym (append-nil done)) ∙ is in cc

-- one result, through each question that is asked of it
pub ended-flag : (e : FinalResult) (o : Outcome) (h : Bool) (g : Bool → language.Ended) → IsFlag h o → final_view e ≡ g h → IsEnded e (λ rs. with_status o (λ u. with_ended (g u) rs))
ended-flag e (stuck s) h g flag is = λ rs xs made. absurd (cc)
ended-flag e (value (boolean b)) h g flag is = λ rs xs made. ap (λ x. with_ended x rs) (is ∙ ap g (flag b refl)) ∙ made
ended-flag e (value d) h g flag is = λ rs xs made. absurd (cc)

one-flag : (e : FinalResult) (o : Outcome) (c : Bool) (g : Bool → Results → Results) → IsFlag c o → IsEnded e (g c) → IsEnded e (λ rs. with_status o (λ x. g x rs))
one-flag e (stuck s) c g flag h = λ rs xs made. absurd (cc)
one-flag e (value (boolean b)) c g flag h = λ rs xs made. h rs xs (ap (λ x. g x rs) (flag b refl) ∙ made)
one-flag e (value d) c g flag h = λ rs xs made. absurd (cc)

pub ended-judged : (e : FinalResult) (o p : Outcome) (c f : Bool) (g : Bool → Bool → Results → Results) → IsFlag c o → IsFlag f p → IsEnded e (g c f)
    → IsEnded e (λ rs. with_status o (λ x. with_status p (λ y. g x y rs)))
ended-judged e o p c f g first second h = one-flag e o c (λ x rs. with_status p (λ y. g x y rs)) first (one-flag e p f (g c) second h)

pub ended-is : (e : FinalResult) (x : language.Ended) → final_view e ≡ x → IsEnded e (λ rs. with_ended x rs)
ended-is e x is = λ rs xs made. ap (λ y. with_ended y rs) is ∙ made

-- a truth value
pub flag-of : (b : Bool) → IsFlag b (value (boolean b))
flag-of b = λ x is. cc

pub flag-by : (o : Outcome) (r : Option Bool) → r ≡ truth (shown o) → IsFlag (is_so r) o
flag-by (stuck s) r told = λ x is. absurd (cc)
flag-by (value (boolean true)) r told = λ x is. ap is_so told ∙ let same : true ≡ x = cc in same
flag-by (value (boolean false)) r told = λ x is. ap is_so told ∙ let same : false ≡ x = cc in same
flag-by (value d) r told = λ x is. absurd (cc)

-- a flag that is there
pub flag-there : (b : Bool) (o : Option Data) → flag_is b o ≡ true → o ≡ Some (boolean b)
flag-there b None h = absurd (cc)
flag-there b (Some (boolean c)) h = ap (λ x. Some (boolean x)) (sym (same-flag b c h))
flag-there b (Some d) h = absurd (cc)

-- the last attempt
last-one : (e : language.Ended) → e.holds ≡ true → last_attempt e ≡ e
last-one e h = rw h refl

pub last-all : (es : List language.Ended) → all_hold es ≡ true → last_attempts es ≡ es
last-all [] h = refl
last-all (e ∷ es) h = let both = and_parts e.holds (all_hold es) h in rw (last-one e both.0, last-all es both.1) refl

-- the world in which the own result is seen
pub own-world : (w : World) (t : Task) (i : Option Data) (fs : Fields) (r : Option Name) (v : Data) (n : Name) (o : Option Data) → t.register ≡ r → v ≡ rec fs
    → ((u : World) → world_with n o u ≡ record u { mine = with_own_field r v u.mine }) → world_with n o (world_with (codes "item") i w) ≡ result_world w t i fs
own-world w t i fs r v n o named is h = rw (named, ← is) (h (world_with (codes "item") i w))

pub end-judged : (e : FinalResult) (w : World) (t : Task) (o : language.Own) (c f : Bool) → is_skipped o.shape ≡ false
    → IsFlag c (keyword_of (own_world w t o) t.changed_when (flag_is true (field_value (codes "changed") o.fields)))
    → IsFlag f (keyword_of (own_world w t o) t.failed_when (flag_is true (field_value (codes "failed") o.fields)))
    → IsEnded e (λ rs. with_status (until_of (judged_world w t o c f) t.attempts) (λ u. with_ended (ended_with o c f u) rs)) → IsEnded e (end_own w t o)
end-judged e w t o c f ran first second h = λ rs xs is.
    ended-judged e (keyword_of (own_world w t o) t.changed_when (flag_is true (field_value (codes "changed") o.fields))) (keyword_of (own_world w t o) t.failed_when (flag_is true (field_value (codes "failed") o.fields)))
    c f (λ x y ss. with_status (until_of (judged_world w t o x y) t.attempts) (λ u. with_ended (ended_with o x y u) ss)) first second h rs xs (rw ran at is)
