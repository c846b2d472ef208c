-- Walks that agree have the same first offence.
use Rattle.std.proofs.Common.{◌≡◌, List, [], ◌∷◌, Some, option_map, refl, ap, ◌∙◌}
use Rattle.pb_language.specs.Expression.{Name}
use Rattle.pb_language.specs.Judgement.{task_fault}
use Rattle.pb_language.specs.Walk.{Visit}
use Rattle.pb_language.specs.Tables.{PlayWalk}
use Rattle.pb_language.specs.Verdict.{code_of, lesser, earlier, visit_offence, visits_offence, plays_offence, first_offence}
use Rattle.pb_language.proofs.TasksSame.{tasks_same}
use Rattle.pb_walks.specs.Agree.{VisitsAgree, AllVisitsAgree, AllPlaysAgree}
use Rattle.pb_walks.specs.Laws.{SameOffence}

visit_same : (h : Name) (v w : Visit) → VisitsAgree v w → visit_offence h v ≡ visit_offence h w
visit_same h v w a =
    let s = a.settings in
    let fault = (tasks_same v.setting w.setting v.visited v.env w.env s.well s.well_too a.well a.well_too (s.first, s.second) a.envs).0 in
    ap (λ o. option_map (λ f. record { code = code_of f; line = v.visited.line; host = Some h }) o) fault
    ∙ ap (λ t. option_map (λ f. record { code = code_of f; line = t.line; host = Some h }) (task_fault w.setting t w.env)) a.visited

visits_same : (h : Name) (vs us : List Visit) → AllVisitsAgree vs us → visits_offence h vs ≡ visits_offence h us
visits_same h [] [] a = refl
visits_same h [] (u ∷ us) a = absurd a
visits_same h (v ∷ vs) [] a = absurd a
visits_same h (v ∷ vs) (u ∷ us) a = ap (λ o. lesser o (visits_offence h vs)) (visit_same h v u a.0) ∙ ap (λ o. lesser (visit_offence h u) o) (visits_same h vs us a.1)

pub plays_same : (h : Name) (ws xs : List PlayWalk) → AllPlaysAgree ws xs → plays_offence h ws ≡ plays_offence h xs
plays_same h [] [] a = refl
plays_same h [] (x ∷ xs) a = absurd a
plays_same h (w ∷ ws) [] a = absurd a
plays_same h (w ∷ ws) (x ∷ xs) a = ap (λ o. lesser o (plays_offence h ws)) (visits_same h w.walked.visits x.walked.visits a.0.visits) ∙ ap (λ o. lesser (visits_offence h x.walked.visits) o) (plays_same h ws xs a.1)

pub same_offence : SameOffence
same_offence [] [] a = refl
same_offence [] (x ∷ xs) a = absurd a
same_offence (w ∷ ws) [] a = absurd a
same_offence (w ∷ ws) (x ∷ xs) a =
    ap (λ h. earlier (plays_offence h w.plays) (first_offence ws)) a.0.host ∙ ap (λ o. earlier o (first_offence ws)) (plays_same x.host w.plays x.plays a.0.plays) ∙ ap (λ o. earlier (plays_offence x.host x.plays) o) (same_offence ws xs a.1)
