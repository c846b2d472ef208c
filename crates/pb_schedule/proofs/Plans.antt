-- The plans of a book, its tasks and its strategies make its plays as they run.
use Rattle.std.proofs.Common.{◌≡◌, ◌∙◌, suc, List, [], ◌∷◌, Bool, Vec, Global, length, map, refl, sym, ap, subst}
use Rattle.std.proofs.lemmas.List.{length-map}
use Rattle.pb_language.specs.Book.{PlayData, Registry}
use Rattle.pb_language.specs.Expression.{Name}
use Rattle.pb_play.specs.Words.{is_linear, play_view}
use Rattle.pb_play.specs.declared.play.Play.{Play}
use Rattle.pb_start.specs.declared.prepared.Prepared.{Prepared}
use Rattle.pb_steps.specs.Outlines.{plan_view, play_plan}
use Rattle.pb_steps.specs.declared.step.PlaySteps.{PlaySteps}
use Rattle.pb_plan.specs.Plays.{AllPrepared, AllUsed}
use Rattle.pb_core.specs.declared.batch.RunPlay.{RunPlay}
use Rattle.pb_schedule.proofs.Runs.{AreRunsOf, play-runs}

-- ---- as many as plays

pub as-many-plans : (ms : Registry) (ss : List PlaySteps) (ps : List PlayData) → map plan_view ss ≡ map (play_plan ms) ps → length ss ≡ length ps
as-many-plans ms ss ps e = sym (length-map ss plan_view) ∙ ap length e ∙ length-map ps (play_plan ms)

pub as-many-tasks : (ms : Registry) (tss : List (Vec Prepared Global)) (ps : List PlayData) → AllPrepared ms tss ps → length tss ≡ length ps
as-many-tasks ms [] [] h = refl
as-many-tasks ms [] (p ∷ ps) h = absurd h
as-many-tasks ms (ts ∷ tss) [] h = absurd h
as-many-tasks ms (ts ∷ tss) (p ∷ ps) h = ap suc (as-many-tasks ms tss ps h.1)

-- ---- play by play

abbrev plans_in : List RunPlay → List PlaySteps
plans_in rs = map (λ r. r.plan) rs

abbrev tasks_in : List RunPlay → List (Vec Prepared Global)
tasks_in rs = map (λ r. r.tasks) rs

runs-made : (ms : Registry) (names : List Name) (rs : List RunPlay) (ps : List PlayData) → map plan_view (plans_in rs) ≡ map (play_plan ms) ps → map (λ (s : PlaySteps). s.handlers) (plans_in rs) ≡ map (λ (p : PlayData). length p.handlers) ps
    → AllUsed ms names (plans_in rs) ps → AllPrepared ms (tasks_in rs) ps → map (λ (r : RunPlay). r.is_linear) rs ≡ map (λ (p : PlayData). p.is_linear) ps → AreRunsOf ms rs ps
runs-made ms names [] [] plan handlers used prepared linear = tt
runs-made ms names [] (p ∷ ps) plan handlers used prepared linear = absurd used
runs-made ms names (r ∷ rs) [] plan handlers used prepared linear = absurd used
runs-made ms names (r ∷ rs) (p ∷ ps) plan handlers used prepared linear =
    let plan-first : plan_view r.plan ≡ play_plan ms p = cc in
    let plan-others : map plan_view (plans_in rs) ≡ map (play_plan ms) ps = cc in
    let handlers-first : r.plan.handlers ≡ length p.handlers = cc in
    let handlers-others : map (λ (s : PlaySteps). s.handlers) (plans_in rs) ≡ map (λ (p : PlayData). length p.handlers) ps = cc in
    let linear-first : r.is_linear ≡ p.is_linear = cc in
    let linear-others : map (λ (r : RunPlay). r.is_linear) rs ≡ map (λ (p : PlayData). p.is_linear) ps = cc in
    (play-runs ms names r p plan-first used.0 prepared.0 handlers-first linear-first, runs-made ms names rs ps plan-others handlers-others used.1 prepared.1 linear-others)

views-linear : (ps : List Play) → map (λ (p : Play). is_linear p.strategy) ps ≡ map (λ (p : PlayData). p.is_linear) (map play_view ps)
views-linear [] = refl
views-linear (p ∷ ps) = ap (λ (bs : List Bool). is_linear p.strategy ∷ bs) (views-linear ps)

pub runs-of : (ms : Registry) (names : List Name) (rs : List RunPlay) (ss : List PlaySteps) (tss : List (Vec Prepared Global)) (ps : List Play) → plans_in rs ≡ ss → tasks_in rs ≡ tss → map (λ (r : RunPlay). r.is_linear) rs ≡ map (λ (p : Play). is_linear p.strategy) ps
    → map plan_view ss ≡ map (play_plan ms) (map play_view ps) → map (λ (s : PlaySteps). s.handlers) ss ≡ map (λ (p : PlayData). length p.handlers) (map play_view ps) → AllUsed ms names ss (map play_view ps) → AllPrepared ms tss (map play_view ps)
    → AreRunsOf ms rs (map play_view ps)
runs-of ms names rs ss tss ps plans tasks linear plan handlers used prepared =
    let qs = map play_view ps in
    runs-made ms names rs qs (ap (map plan_view) plans ∙ plan) (ap (map (λ (s : PlaySteps). s.handlers)) plans ∙ handlers) (subst (λ xs. AllUsed ms names xs qs) (sym plans) used)
    (subst (λ xs. AllPrepared ms xs qs) (sym tasks) prepared) (linear ∙ views-linear ps)
