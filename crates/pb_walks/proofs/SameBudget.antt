-- Walks that agree hand out the same number of calls at most.
use Rattle.std.proofs.Common.{◌≡◌, ℕ, suc, ◌+◌, ◌*◌, max, nat_eq, cond, List, [], ◌∷◌, Option, Some, None, refl, ap, ◌∙◌}
use Rattle.pb_language.specs.Expression.{Expression}
use Rattle.pb_language.specs.Task.{Task, Action, call_of, debug, set_fact, assertion, failure_of, Handlers, no_handlers, handler, Row, end, task, flush, section, block}
use Rattle.pb_language.specs.Kinds.{kind_of}
use Rattle.pb_language.specs.Setting.{start_scope}
use Rattle.pb_language.specs.Judgement.{loop_length}
use Rattle.pb_language.specs.Give.{retries_of}
use Rattle.pb_language.specs.Walk.{Visit}
use Rattle.pb_language.specs.Tables.{PlayWalk, greatest_length, place_length, place_calls, flush_calls, row_calls, plays_calls, budget_of}
use Rattle.pb_language.proofs.After.{well_start}
use Rattle.pb_language.proofs.ExitsUp.{starts_up}
use Rattle.pb_language.proofs.TestsSame.{length_same}
use Rattle.pb_language.proofs.FaultsSame.{kinds_same}
use Rattle.pb_walks.specs.Agree.{VisitsAgree, AllVisitsAgree, AllPlaysAgree}
use Rattle.pb_walks.specs.Laws.{SameBudget}

both_sums : (a b c d : ℕ) → a ≡ c → b ≡ d → a + b ≡ c + d
both_sums a b c d x y = ap (λ n. n + b) x ∙ ap (λ n. c + n) y

-- the loop's expression need not be that of the task
visit_length : (e : Expression) (v w : Visit) → VisitsAgree v w → loop_length v.setting v.visited v.env (Some e) ≡ loop_length w.setting w.visited w.env (Some e)
visit_length e v w a =
    let s = a.settings in
    let t = v.visited in
    let c = start_scope v.setting t v.env in
    let d = start_scope w.setting t w.env in
    let same = kinds_same e c d (well_start v.setting s.well t v.env a.well) (well_start w.setting s.well_too t w.env a.well_too) (starts_up v.setting w.setting t v.env w.env s.well s.well_too a.well a.well_too s.first a.envs.0)
    (starts_up w.setting v.setting t w.env v.env s.well_too s.well a.well_too a.well s.second a.envs.1) in
    length_same (kind_of c e) (kind_of d e) same ∙ ap (λ u. loop_length w.setting u w.env (Some e)) a.visited

module _ (p : ℕ) (e : Expression) where
  greatest_same : (vs us : List Visit) → AllVisitsAgree vs us → greatest_length p e vs ≡ greatest_length p e us
  greatest_same [] [] a = refl
  greatest_same [] (u ∷ us) a = absurd a
  greatest_same (v ∷ vs) [] a = absurd a
  greatest_same (v ∷ vs) (u ∷ us) a =
      ap (λ n. cond (nat_eq p v.visited.place) (max n (greatest_length p e vs)) (greatest_length p e vs)) (visit_length e v u a.0)
      ∙ ap (λ n. cond (nat_eq p v.visited.place) (max (loop_length u.setting u.visited u.env (Some e)) n) n) (greatest_same vs us a.1)
      ∙ ap (λ t. cond (nat_eq p t.place) (max (loop_length u.setting u.visited u.env (Some e)) (greatest_length p e us)) (greatest_length p e us)) a.0.visited

module _ (vs us : List Visit) (a : AllVisitsAgree vs us) where
  length_at : (t : Task) (o : Option Expression) → place_length t o vs ≡ place_length t o us
  length_at t None = refl
  length_at t (Some e) = greatest_same t.place e vs us a

  calls_at : (t : Task) (x : Action) → place_calls vs t x ≡ place_calls us t x
  calls_at t (call_of m ps) = ap (λ n. suc (retries_of t.attempts) * n) (length_at t t.loop)
  calls_at t (debug e) = refl
  calls_at t (set_fact ps) = refl
  calls_at t (assertion es o) = refl
  calls_at t (failure_of o) = refl

  flush_same : (hs : Handlers) → flush_calls vs hs ≡ flush_calls us hs
  flush_same no_handlers = refl
  flush_same (handler n t hs) = both_sums (place_calls vs t t.action) (flush_calls vs hs) (place_calls us t t.action) (flush_calls us hs) (calls_at t t.action) (flush_same hs)

  row_same : (row : Row) → row_calls vs row ≡ row_calls us row
  row_same end = refl
  row_same (task t row) = both_sums (place_calls vs t t.action) (row_calls vs row) (place_calls us t t.action) (row_calls us row) (calls_at t t.action) (row_same row)
  row_same (flush hs row) = both_sums (flush_calls vs hs) (row_calls vs row) (flush_calls us hs) (row_calls us row) (flush_same hs) (row_same row)
  row_same (section body hs row) =
      both_sums (row_calls vs body) (flush_calls vs hs + row_calls vs row) (row_calls us body) (flush_calls us hs + row_calls us row) (row_same body)
      (both_sums (flush_calls vs hs) (row_calls vs row) (flush_calls us hs) (row_calls us row) (flush_same hs) (row_same row))
  row_same (block d body saves rescued always row) =
      both_sums (row_calls vs body) (row_calls vs rescued + (row_calls vs always + row_calls vs row)) (row_calls us body) (row_calls us rescued + (row_calls us always + row_calls us row)) (row_same body)
      (both_sums (row_calls vs rescued) (row_calls vs always + row_calls vs row) (row_calls us rescued) (row_calls us always + row_calls us row) (row_same rescued)
      (both_sums (row_calls vs always) (row_calls vs row) (row_calls us always) (row_calls us row) (row_same always) (row_same row)))

pub plays_same : (ws xs : List PlayWalk) → AllPlaysAgree ws xs → plays_calls ws ≡ plays_calls xs
plays_same [] [] a = refl
plays_same [] (x ∷ xs) a = absurd a
plays_same (w ∷ ws) [] a = absurd a
plays_same (w ∷ ws) (x ∷ xs) a =
    both_sums (row_calls w.walked.visits w.play.row) (plays_calls ws) (row_calls x.walked.visits x.play.row) (plays_calls xs)
    (row_same w.walked.visits x.walked.visits a.0.visits w.play.row ∙ ap (λ p. row_calls x.walked.visits p.row) a.0.play) (plays_same ws xs a.1)

pub same_budget : SameBudget
same_budget [] [] a = refl
same_budget [] (x ∷ xs) a = absurd a
same_budget (w ∷ ws) [] a = absurd a
same_budget (w ∷ ws) (x ∷ xs) a = both_sums (plays_calls w.plays) (budget_of ws) (plays_calls x.plays) (budget_of xs) (plays_same w.plays x.plays a.0.plays) (same_budget ws xs a.1)
