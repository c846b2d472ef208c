-- Walks that are alike hand out the same number of calls at most.
use Rattle.std.proofs.Common.{◌≡◌, ℕ, suc, ◌+◌, ◌*◌, max, nat_eq, cond, List, [], ◌∷◌, false, ◌||◌, Option, Some, None, refl, ap, ◌∙◌}
use Rattle.pb_semantics.proofs.Bools.{neither-left, neither-right}
use Rattle.pb_language.specs.Expression.{Expression}
use Rattle.pb_language.specs.Rules.{reads_others}
use Rattle.pb_language.specs.Task.{Task, Action, call_of, debug, set_fact, assertion, failure_of, Handlers, no_handlers, handler, Row, end, task, flush, section, block}
use Rattle.pb_language.specs.Judgement.{loop_length}
use Rattle.pb_language.specs.Give.{retries_of}
use Rattle.pb_language.specs.Walk.{Visit}
use Rattle.pb_language.specs.Tables.{PlayWalk, HostWalk, greatest_length, place_length, place_calls, flush_calls, row_calls, plays_calls, budget_of}
use Rattle.pb_walks.specs.Alone.{text_reads_others, task_reads_others, handlers_read_others, row_reads_others}
use Rattle.pb_walks.proofs.AloneTasks.{reads_none}
use Rattle.pb_walks.proofs.AloneVisits.{AllVisitsAlike}
use Rattle.pb_walks.proofs.AlonePlays.{AllPlaysAlike, AllHostsAlike}

both_sums : (a b c d : ℕ) → a ≡ c → b ≡ d → a + b ≡ c + d
both_sums a b c d x y = ap (λ n. n + b) x ∙ ap (λ n. c + n) y

module _ (p : ℕ) (e : Expression) (r : reads_others e ≡ false) where
  greatest_alike : (vs us : List Visit) → AllVisitsAlike vs us → greatest_length p e vs ≡ greatest_length p e us
  greatest_alike [] [] a = refl
  greatest_alike [] (u ∷ us) a = absurd a
  greatest_alike (v ∷ vs) [] a = absurd a
  greatest_alike (v ∷ vs) (u ∷ us) a =
      ap (λ n. cond (nat_eq p v.visited.place) (max n (greatest_length p e vs)) (greatest_length p e vs)) (a.0.lengths e r)
      ∙ ap (λ n. cond (nat_eq p v.visited.place) (max (loop_length u.setting u.visited u.env (Some e)) n) n) (greatest_alike vs us a.1)
      ∙ ap (λ t. cond (nat_eq p t.place) (max (loop_length u.setting u.visited u.env (Some e)) (greatest_length p e us)) (greatest_length p e us)) a.0.visited

module _ (vs us : List Visit) (a : AllVisitsAlike vs us) where
  length_at : (t : Task) (o : Option Expression) → text_reads_others o ≡ false → place_length t o vs ≡ place_length t o us
  length_at t None n = refl
  length_at t (Some e) n = greatest_alike t.place e n vs us a

  calls_at : (t : Task) (x : Action) → task_reads_others t ≡ false → place_calls vs t x ≡ place_calls us t x
  calls_at t (call_of m ps) n = ap (λ k. suc (retries_of t.attempts) * k) (length_at t t.loop (reads_none t n).loop)
  calls_at t (debug e) n = refl
  calls_at t (set_fact ps) n = refl
  calls_at t (assertion es o) n = refl
  calls_at t (failure_of o) n = refl

  flush_same : (hs : Handlers) → handlers_read_others hs ≡ false → flush_calls vs hs ≡ flush_calls us hs
  flush_same no_handlers n = refl
  flush_same (handler i t hs) n =
      both_sums (place_calls vs t t.action) (flush_calls vs hs) (place_calls us t t.action) (flush_calls us hs) (calls_at t t.action (neither-left (task_reads_others t) (handlers_read_others hs) n))
      (flush_same hs (neither-right (task_reads_others t) (handlers_read_others hs) n))

  row_same : (row : Row) → row_reads_others row ≡ false → row_calls vs row ≡ row_calls us row
  row_same end n = refl
  row_same (task t row) n =
      both_sums (place_calls vs t t.action) (row_calls vs row) (place_calls us t t.action) (row_calls us row) (calls_at t t.action (neither-left (task_reads_others t) (row_reads_others row) n))
      (row_same row (neither-right (task_reads_others t) (row_reads_others row) n))
  row_same (flush hs row) n =
      both_sums (flush_calls vs hs) (row_calls vs row) (flush_calls us hs) (row_calls us row) (flush_same hs (neither-left (handlers_read_others hs) (row_reads_others row) n))
      (row_same row (neither-right (handlers_read_others hs) (row_reads_others row) n))
  row_same (section body hs row) n =
      let m = neither-right (row_reads_others body) (handlers_read_others hs || row_reads_others row) n in
      both_sums (row_calls vs body) (flush_calls vs hs + row_calls vs row) (row_calls us body) (flush_calls us hs + row_calls us row)
      (row_same body (neither-left (row_reads_others body) (handlers_read_others hs || row_reads_others row) n))
      (both_sums (flush_calls vs hs) (row_calls vs row) (flush_calls us hs) (row_calls us row) (flush_same hs (neither-left (handlers_read_others hs) (row_reads_others row) m))
      (row_same row (neither-right (handlers_read_others hs) (row_reads_others row) m)))
  row_same (block d body saves rescued always row) n =
      let m = neither-right (row_reads_others body) (row_reads_others rescued || (row_reads_others always || row_reads_others row)) n in
      let o = neither-right (row_reads_others rescued) (row_reads_others always || row_reads_others row) m in
      both_sums (row_calls vs body) (row_calls vs rescued + (row_calls vs always + row_calls vs row)) (row_calls us body) (row_calls us rescued + (row_calls us always + row_calls us row))
      (row_same body (neither-left (row_reads_others body) (row_reads_others rescued || (row_reads_others always || row_reads_others row)) n))
      (both_sums (row_calls vs rescued) (row_calls vs always + row_calls vs row) (row_calls us rescued) (row_calls us always + row_calls us row)
      (row_same rescued (neither-left (row_reads_others rescued) (row_reads_others always || row_reads_others row) m))
      (both_sums (row_calls vs always) (row_calls vs row) (row_calls us always) (row_calls us row) (row_same always (neither-left (row_reads_others always) (row_reads_others row) o))
      (row_same row (neither-right (row_reads_others always) (row_reads_others row) o))))

plays_same : (ws xs : List PlayWalk) → AllPlaysAlike ws xs → plays_calls ws ≡ plays_calls xs
plays_same [] [] a = refl
plays_same [] (x ∷ xs) a = absurd a
plays_same (w ∷ ws) [] a = absurd a
plays_same (w ∷ ws) (x ∷ xs) a =
    both_sums (row_calls w.walked.visits w.play.row) (plays_calls ws) (row_calls x.walked.visits x.play.row) (plays_calls xs)
    (row_same w.walked.visits x.walked.visits a.0.visits w.play.row a.0.reads ∙ ap (λ p. row_calls x.walked.visits p.row) a.0.play) (plays_same ws xs a.1)

pub budget_alike : (ws xs : List HostWalk) → AllHostsAlike ws xs → budget_of ws ≡ budget_of xs
budget_alike [] [] a = refl
budget_alike [] (x ∷ xs) a = absurd a
budget_alike (w ∷ ws) [] a = absurd a
budget_alike (w ∷ ws) (x ∷ xs) a = both_sums (plays_calls w.plays) (budget_of ws) (plays_calls x.plays) (budget_of xs) (plays_same w.plays x.plays a.0.plays) (budget_alike ws xs a.1)
