-- Walks that are alike have the same offence but for the host, the same writes, and texts that name handlers alike.
use Rattle.std.proofs.Common.{◌≡◌, ℕ, List, [], ◌∷◌, Bool, true, false, ◌&&◌, cond, Option, Some, None, option_map, refl, sym, ap, ◌∙◌}
use Rattle.pb_semantics.specs.Kind.{Slots}
use Rattle.pb_language.specs.Expression.{Name}
use Rattle.pb_language.specs.Fit.{Fault}
use Rattle.pb_language.specs.Judgement.{task_fault, task_writes}
use Rattle.pb_language.specs.Notify.{all_notified, names_something}
use Rattle.pb_language.specs.Task.{Task}
use Rattle.pb_language.specs.Walk.{Visit}
use Rattle.pb_language.specs.Tables.{with_writes, with_visits, with_plays, writes_below, visits_below}
use Rattle.pb_language.specs.Verdict.{Refusal, code_of, is_lesser, lesser, visit_offence, visits_offence, plays_offence}
use Rattle.pb_walks.specs.Notified.{AllNameHandlers}
use Rattle.pb_walks.proofs.AloneFaults.{both}
use Rattle.pb_alike.specs.Alike.{VisitsAlike, AllVisitsAlike, refused_on}
use Rattle.pb_alike.specs.Laws.{AlikeOffence, AlikeWrites, AlikeSettled, AlikeNameHandlers}
use Rattle.pb_alike.proofs.ReadsNeither.{task_neither}
use Rattle.pb_alike.proofs.AlikeTasks.{fault_same, writes_same}

faults_alike : (v w : Visit) → VisitsAlike v w → task_fault w.setting w.visited w.env ≡ task_fault v.setting v.visited v.env
faults_alike v w a =
    sym (fault_same v.setting w.setting a.settings v.visited v.env (task_neither v.visited a.no_others a.no_name) ∙ both (λ t ss. task_fault w.setting t ss) _ _ _ _ a.visited a.envs)

written_alike : (v w : Visit) → VisitsAlike v w → task_writes v.setting v.visited v.env ≡ task_writes w.setting w.visited w.env
written_alike v w a = writes_same v.setting w.setting a.settings v.visited v.env (task_neither v.visited a.no_others a.no_name) ∙ both (λ t ss. task_writes w.setting t ss) _ _ _ _ a.visited a.envs

-- ---- the first offence

chosen : (g : Name) (q : Bool) (r s : Refusal) → cond q (refused_on g (Some r)) (refused_on g (Some s)) ≡ refused_on g (cond q (Some r) (Some s))
chosen g true r s = refl
chosen g false r s = refl

lesser_on : (g : Name) (o p : Option Refusal) → lesser (refused_on g o) (refused_on g p) ≡ refused_on g (lesser o p)
lesser_on g None p = refl
lesser_on g (Some r) None = refl
lesser_on g (Some r) (Some s) = chosen g (is_lesser s r) s r

abbrev refusal : Name → ℕ → Fault → Refusal
refusal h l f = record { code = code_of f; line = l; host = Some h }

moved : (h g : Name) (l : ℕ) (o : Option Fault) → option_map (refusal g l) o ≡ refused_on g (option_map (refusal h l) o)
moved h g l None = refl
moved h g l (Some f) = refl

visit_offends : (h g : Name) (v w : Visit) → VisitsAlike v w → visit_offence g w ≡ refused_on g (visit_offence h v)
visit_offends h g v w a =
    ap (λ o. option_map (refusal g w.visited.line) o) (faults_alike v w a)
    ∙ (ap (λ (t : Task). option_map (refusal g t.line) (task_fault v.setting v.visited v.env)) (sym a.visited)
    ∙ moved h g v.visited.line (task_fault v.setting v.visited v.env))

visits_offend : (h g : Name) (vs us : List Visit) → AllVisitsAlike vs us → visits_offence g us ≡ refused_on g (visits_offence h vs)
visits_offend h g [] [] a = refl
visits_offend h g [] (u ∷ us) a = absurd a
visits_offend h g (v ∷ vs) [] a = absurd a
visits_offend h g (v ∷ vs) (u ∷ us) a = both lesser _ _ _ _ (visit_offends h g v u a.0) (visits_offend h g vs us a.1) ∙ lesser_on g (visit_offence h v) (visits_offence h vs)

pub offence_alike : AlikeOffence
offence_alike h g [] [] a = refl
offence_alike h g [] (x ∷ xs) a = absurd a
offence_alike h g (w ∷ ws) [] a = absurd a
offence_alike h g (w ∷ ws) (x ∷ xs) a =
    both lesser _ _ _ _ (visits_offend h g w.walked.visits x.walked.visits a.0.visits) (offence_alike h g ws xs a.1) ∙ lesser_on g (visits_offence h w.walked.visits) (plays_offence h ws)

-- ---- the writes

visits_write : (vs us : List Visit) (ss : Slots) → AllVisitsAlike vs us → with_visits vs ss ≡ with_visits us ss
visits_write [] [] ss a = refl
visits_write [] (u ∷ us) ss a = absurd a
visits_write (v ∷ vs) [] ss a = absurd a
visits_write (v ∷ vs) (u ∷ us) ss a = ap (λ w. with_visits vs (with_writes w ss)) (written_alike v u a.0) ∙ visits_write vs us (with_writes (task_writes u.setting u.visited u.env) ss) a.1

pub writes_alike : AlikeWrites
writes_alike [] [] ss a = refl
writes_alike [] (x ∷ xs) ss a = absurd a
writes_alike (w ∷ ws) [] ss a = absurd a
writes_alike (w ∷ ws) (x ∷ xs) ss a = ap (with_plays ws) (visits_write w.walked.visits x.walked.visits ss a.0.visits) ∙ writes_alike ws xs (with_visits x.walked.visits ss) a.1

visits_settle : (vs us : List Visit) (ss : Slots) → AllVisitsAlike vs us → visits_below vs ss ≡ visits_below us ss
visits_settle [] [] ss a = refl
visits_settle [] (u ∷ us) ss a = absurd a
visits_settle (v ∷ vs) [] ss a = absurd a
visits_settle (v ∷ vs) (u ∷ us) ss a = both (λ p q. p && q) _ _ _ _ (ap (λ w. writes_below w ss) (written_alike v u a.0)) (visits_settle vs us ss a.1)

pub settled_alike : AlikeSettled
settled_alike [] [] ss a = refl
settled_alike [] (x ∷ xs) ss a = absurd a
settled_alike (w ∷ ws) [] ss a = absurd a
settled_alike (w ∷ ws) (x ∷ xs) ss a = both (λ p q. p && q) _ _ _ _ (visits_settle w.walked.visits x.walked.visits ss a.0.visits) (settled_alike ws xs ss a.1)

-- ---- texts that notify

visit_names : (v w : Visit) → VisitsAlike v w → names_something (all_notified w.setting.handlers w.visited.notifies) ≡ true → names_something (all_notified v.setting.handlers v.visited.notifies) ≡ true
visit_names v w a h = both (λ hs (t : Task). names_something (all_notified hs t.notifies)) _ _ _ _ a.settings.handlers a.visited ∙ h

visits_name : (vs us : List Visit) → AllVisitsAlike vs us → AllNameHandlers us → AllNameHandlers vs
visits_name [] [] a h = tt
visits_name [] (u ∷ us) a h = absurd a
visits_name (v ∷ vs) [] a h = absurd a
visits_name (v ∷ vs) (u ∷ us) a h = (visit_names v u a.0 h.0, visits_name vs us a.1 h.1)

pub handlers_alike : AlikeNameHandlers
handlers_alike [] [] a h = tt
handlers_alike [] (x ∷ xs) a h = absurd a
handlers_alike (w ∷ ws) [] a h = absurd a
handlers_alike (w ∷ ws) (x ∷ xs) a h = (visits_name w.walked.visits x.walked.visits a.0.visits h.0, handlers_alike ws xs a.1 h.1)
