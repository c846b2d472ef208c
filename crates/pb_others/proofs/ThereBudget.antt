-- Walks that are alike hand out the same number of calls at most.
use Rattle.std.proofs.Common.{◌≡◌, ℕ, suc, ◌+◌, ◌*◌, max, nat_eq, cond, List, [], ◌∷◌, Bool, false, ◌||◌, Option, Some, None, refl, ap, ◌∙◌}
use Rattle.pb_semantics.proofs.Bools.{neither-left, neither-right}
use Rattle.pb_language.specs.Expression.{Expression, Root}
use Rattle.pb_language.specs.Task.{Task, Action, call_of, debug, set_fact, assertion, failure_of, Handlers, no_handlers, handler, Row, end, task, flush, section, block}
use Rattle.pb_language.specs.Judgement.{loop_length}
use Rattle.pb_language.specs.Give.{retries_of}
use Rattle.pb_language.specs.Walk.{Visit}
use Rattle.pb_language.specs.Tables.{PlayWalk, HostWalk, greatest_length, place_length, place_calls, flush_calls, row_calls, plays_calls, budget_of}
use Rattle.pb_walks.proofs.AloneFaults.{both}
use Rattle.pb_others.specs.Rooted.{has_root, text_has_root, task_has_root, handlers_have_root, row_has_root}
use Rattle.pb_others.proofs.ThereTasks.{has_none}
use Rattle.pb_others.proofs.ThereVisits.{AllVisitsAlike}
use Rattle.pb_others.proofs.TherePlays.{AllPlaysAlike, AllHostsAlike}

module _ (q : Root → Bool) (p : ℕ) (e : Expression) (r : has_root q e ≡ false) where
  greatest_alike : (vs us : List Visit) → AllVisitsAlike q vs us → greatest_length p e vs ≡ greatest_length p e us
  greatest_alike [] [] a = refl
  greatest_alike [] (u ∷ us) a = absurd a
  greatest_alike (v ∷ vs) [] a = absurd a
  greatest_alike (v ∷ vs) (u ∷ us) a =
      ap (λ n. cond (nat_eq p v.visited.place) (max n (greatest_length p e vs)) (greatest_length p e vs)) (a.0.lengths e r)
      ∙ ap (λ n. cond (nat_eq p v.visited.place) (max (loop_length u.setting u.visited u.env (Some e)) n) n) (greatest_alike vs us a.1)
      ∙ ap (λ t. cond (nat_eq p t.place) (max (loop_length u.setting u.visited u.env (Some e)) (greatest_length p e us)) (greatest_length p e us)) a.0.visited

module _ (q : Root → Bool) (vs us : List Visit) (a : AllVisitsAlike q vs us) where
  length_at : (t : Task) (o : Option Expression) → text_has_root q o ≡ false → place_length t o vs ≡ place_length t o us
  length_at t None n = refl
  length_at t (Some e) n = greatest_alike q t.place e n vs us a

  calls_at : (t : Task) (x : Action) → task_has_root q t ≡ false → place_calls vs t x ≡ place_calls us t x
  calls_at t (call_of m ps) n = ap (λ k. suc (retries_of t.attempts) * k) (length_at t t.loop (has_none q t n).loop)
  calls_at t (debug e) n = refl
  calls_at t (set_fact ps) n = refl
  calls_at t (assertion es o) n = refl
  calls_at t (failure_of o) n = refl

  flush_same : (hs : Handlers) → handlers_have_root q hs ≡ false → flush_calls vs hs ≡ flush_calls us hs
  flush_same no_handlers n = refl
  flush_same (handler i t hs) n =
      both (λ x y. x + y) _ _ _ _ (calls_at t t.action (neither-left (task_has_root q t) (handlers_have_root q hs) n))
      (flush_same hs (neither-right (task_has_root q t) (handlers_have_root q hs) n))

  row_same : (row : Row) → row_has_root q row ≡ false → row_calls vs row ≡ row_calls us row
  row_same end n = refl
  row_same (task t row) n =
      both (λ x y. x + y) _ _ _ _ (calls_at t t.action (neither-left (task_has_root q t) (row_has_root q row) n))
      (row_same row (neither-right (task_has_root q t) (row_has_root q row) n))
  row_same (flush hs row) n =
      both (λ x y. x + y) _ _ _ _ (flush_same hs (neither-left (handlers_have_root q hs) (row_has_root q row) n))
      (row_same row (neither-right (handlers_have_root q hs) (row_has_root q row) n))
  row_same (section body hs row) n =
      let m = neither-right (row_has_root q body) (handlers_have_root q hs || row_has_root q row) n in
      both (λ x y. x + y) _ _ _ _
      (row_same body (neither-left (row_has_root q body) (handlers_have_root q hs || row_has_root q row) n))
      (both (λ x y. x + y) _ _ _ _ (flush_same hs (neither-left (handlers_have_root q hs) (row_has_root q row) m))
      (row_same row (neither-right (handlers_have_root q hs) (row_has_root q row) m)))
  row_same (block d body saves rescued always row) n =
      let m = neither-right (row_has_root q body) (row_has_root q rescued || (row_has_root q always || row_has_root q row)) n in
      let o = neither-right (row_has_root q rescued) (row_has_root q always || row_has_root q row) m in
      both (λ x y. x + y) _ _ _ _
      (row_same body (neither-left (row_has_root q body) (row_has_root q rescued || (row_has_root q always || row_has_root q row)) n))
      (both (λ x y. x + y) _ _ _ _
      (row_same rescued (neither-left (row_has_root q rescued) (row_has_root q always || row_has_root q row) m))
      (both (λ x y. x + y) _ _ _ _ (row_same always (neither-left (row_has_root q always) (row_has_root q row) o))
      (row_same row (neither-right (row_has_root q always) (row_has_root q row) o))))

plays_same : (q : Root → Bool) (ws xs : List PlayWalk) → AllPlaysAlike q ws xs → plays_calls ws ≡ plays_calls xs
plays_same q [] [] a = refl
plays_same q [] (x ∷ xs) a = absurd a
plays_same q (w ∷ ws) [] a = absurd a
plays_same q (w ∷ ws) (x ∷ xs) a =
    both (λ x y. x + y) _ _ _ _
    (row_same q w.walked.visits x.walked.visits a.0.visits w.play.row a.0.reads ∙ ap (λ p. row_calls x.walked.visits p.row) a.0.play) (plays_same q ws xs a.1)

pub budget_alike : (q : Root → Bool) (ws xs : List HostWalk) → AllHostsAlike q ws xs → budget_of ws ≡ budget_of xs
budget_alike q [] [] a = refl
budget_alike q [] (x ∷ xs) a = absurd a
budget_alike q (w ∷ ws) [] a = absurd a
budget_alike q (w ∷ ws) (x ∷ xs) a = both (λ x y. x + y) _ _ _ _ (plays_same q w.plays x.plays a.0.plays) (budget_alike q ws xs a.1)
