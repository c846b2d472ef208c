-- Walks that are alike hand out the same number of calls at most.
use Rattle.std.proofs.Common.{◌≡◌, ℕ, suc, ◌+◌, ◌*◌, max, nat_eq, cond, List, [], ◌∷◌, false, ◌||◌, Option, Some, None, refl, ap, ◌∙◌}
use Rattle.pb_semantics.proofs.Bools.{neither-left, neither-right}
use Rattle.pb_language.specs.Expression.{Expression}
use Rattle.pb_language.specs.Task.{Task, Action, call_of, debug, set_fact, assertion, failure_of, Handlers, no_handlers, handler, Row, end, task, flush, section, block}
use Rattle.pb_language.specs.Judgement.{loop_length}
use Rattle.pb_language.specs.Give.{retries_of}
use Rattle.pb_language.specs.Walk.{Visit}
use Rattle.pb_language.specs.Tables.{greatest_length, place_length, place_calls, flush_calls, row_calls, plays_calls}
use Rattle.pb_walks.specs.Alone.{task_reads_others, handlers_read_others, row_reads_others}
use Rattle.pb_walks.proofs.AloneFaults.{both}
use Rattle.pb_alike.specs.Alike.{VisitsAlike, AllVisitsAlike}
use Rattle.pb_alike.specs.Named.{task_reads_name, handlers_read_name, row_reads_name}
use Rattle.pb_alike.specs.Laws.{AlikeCalls}
use Rattle.pb_alike.proofs.ReadsNeither.{Neither, TextNeither, task_neither}
use Rattle.pb_alike.proofs.AlikeTasks.{length_alike}

sums : (a b c d : ℕ) → a ≡ c → b ≡ d → a + b ≡ c + d
sums a b c d x y = both (λ m n. m + n) a c b d x y

module _ (p : ℕ) (e : Expression) (r : Neither e) where
  length_same : (v w : Visit) → VisitsAlike v w → loop_length v.setting v.visited v.env (Some e) ≡ loop_length w.setting w.visited w.env (Some e)
  length_same v w a = length_alike v.setting w.setting a.settings v.visited v.env e r ∙ both (λ t ss. loop_length w.setting t ss (Some e)) _ _ _ _ a.visited a.envs

  greatest_alike : (vs us : List Visit) → AllVisitsAlike vs us → greatest_length p e vs ≡ greatest_length p e us
  greatest_alike [] [] a = refl
  greatest_alike [] (u ∷ us) a = absurd a
  greatest_alike (v ∷ vs) [] a = absurd a
  greatest_alike (v ∷ vs) (u ∷ us) a =
      both (λ l n. cond (nat_eq p v.visited.place) (max l n) n) _ _ _ _ (length_same v u a.0) (greatest_alike vs us a.1)
      ∙ ap (λ (t : Task). cond (nat_eq p t.place) (max (loop_length u.setting u.visited u.env (Some e)) (greatest_length p e us)) (greatest_length p e us)) a.0.visited

module _ (vs us : List Visit) (a : AllVisitsAlike vs us) where
  length_at : (t : Task) (o : Option Expression) → TextNeither o → place_length t o vs ≡ place_length t o us
  length_at t None n = refl
  length_at t (Some e) n = greatest_alike t.place e n vs us a

  calls_at : (t : Task) (x : Action) → task_reads_others t ≡ false → task_reads_name t ≡ false → place_calls vs t x ≡ place_calls us t x
  calls_at t (call_of c ps) n m = ap (λ k. suc (retries_of t.attempts) * k) (length_at t t.loop (task_neither t n m).loop)
  calls_at t (debug e) n m = refl
  calls_at t (set_fact ps) n m = refl
  calls_at t (assertion es o) n m = refl
  calls_at t (failure_of o) n m = refl

  flush_same : (hs : Handlers) → handlers_read_others hs ≡ false → handlers_read_name hs ≡ false → flush_calls vs hs ≡ flush_calls us hs
  flush_same no_handlers n m = refl
  flush_same (handler i t hs) n m =
      sums (place_calls vs t t.action) (flush_calls vs hs) (place_calls us t t.action) (flush_calls us hs)
      (calls_at t t.action (neither-left (task_reads_others t) (handlers_read_others hs) n) (neither-left (task_reads_name t) (handlers_read_name hs) m))
      (flush_same hs (neither-right (task_reads_others t) (handlers_read_others hs) n) (neither-right (task_reads_name t) (handlers_read_name hs) m))

  row_same : (row : Row) → row_reads_others row ≡ false → row_reads_name row ≡ false → row_calls vs row ≡ row_calls us row
  row_same end n m = refl
  row_same (task t row) n m =
      sums (place_calls vs t t.action) (row_calls vs row) (place_calls us t t.action) (row_calls us row)
      (calls_at t t.action (neither-left (task_reads_others t) (row_reads_others row) n) (neither-left (task_reads_name t) (row_reads_name row) m))
      (row_same row (neither-right (task_reads_others t) (row_reads_others row) n) (neither-right (task_reads_name t) (row_reads_name row) m))
  row_same (flush hs row) n m =
      sums (flush_calls vs hs) (row_calls vs row) (flush_calls us hs) (row_calls us row)
      (flush_same hs (neither-left (handlers_read_others hs) (row_reads_others row) n) (neither-left (handlers_read_name hs) (row_reads_name row) m))
      (row_same row (neither-right (handlers_read_others hs) (row_reads_others row) n) (neither-right (handlers_read_name hs) (row_reads_name row) m))
  row_same (section body hs row) n m =
      let n2 = neither-right (row_reads_others body) (handlers_read_others hs || row_reads_others row) n in
      let m2 = neither-right (row_reads_name body) (handlers_read_name hs || row_reads_name row) m in
      sums (row_calls vs body) (flush_calls vs hs + row_calls vs row) (row_calls us body) (flush_calls us hs + row_calls us row)
      (row_same body (neither-left (row_reads_others body) (handlers_read_others hs || row_reads_others row) n) (neither-left (row_reads_name body) (handlers_read_name hs || row_reads_name row) m))
      (sums (flush_calls vs hs) (row_calls vs row) (flush_calls us hs) (row_calls us row)
      (flush_same hs (neither-left (handlers_read_others hs) (row_reads_others row) n2) (neither-left (handlers_read_name hs) (row_reads_name row) m2))
      (row_same row (neither-right (handlers_read_others hs) (row_reads_others row) n2) (neither-right (handlers_read_name hs) (row_reads_name row) m2)))
  row_same (block d body saves rescued always row) n m =
      let n2 = neither-right (row_reads_others body) (row_reads_others rescued || (row_reads_others always || row_reads_others row)) n in
      let m2 = neither-right (row_reads_name body) (row_reads_name rescued || (row_reads_name always || row_reads_name row)) m in
      let n3 = neither-right (row_reads_others rescued) (row_reads_others always || row_reads_others row) n2 in
      let m3 = neither-right (row_reads_name rescued) (row_reads_name always || row_reads_name row) m2 in
      sums (row_calls vs body) (row_calls vs rescued + (row_calls vs always + row_calls vs row)) (row_calls us body) (row_calls us rescued + (row_calls us always + row_calls us row))
      (row_same body (neither-left (row_reads_others body) (row_reads_others rescued || (row_reads_others always || row_reads_others row)) n)
      (neither-left (row_reads_name body) (row_reads_name rescued || (row_reads_name always || row_reads_name row)) m))
      (sums (row_calls vs rescued) (row_calls vs always + row_calls vs row) (row_calls us rescued) (row_calls us always + row_calls us row)
      (row_same rescued (neither-left (row_reads_others rescued) (row_reads_others always || row_reads_others row) n2) (neither-left (row_reads_name rescued) (row_reads_name always || row_reads_name row) m2))
      (sums (row_calls vs always) (row_calls vs row) (row_calls us always) (row_calls us row)
      (row_same always (neither-left (row_reads_others always) (row_reads_others row) n3) (neither-left (row_reads_name always) (row_reads_name row) m3))
      (row_same row (neither-right (row_reads_others always) (row_reads_others row) n3) (neither-right (row_reads_name always) (row_reads_name row) m3))))

pub calls_alike : AlikeCalls
calls_alike [] [] a = refl
calls_alike [] (x ∷ xs) a = absurd a
calls_alike (w ∷ ws) [] a = absurd a
calls_alike (w ∷ ws) (x ∷ xs) a =
    sums (row_calls w.walked.visits w.play.row) (plays_calls ws) (row_calls x.walked.visits x.play.row) (plays_calls xs)
    (row_same w.walked.visits x.walked.visits a.0.visits w.play.row a.0.no_others a.0.no_name ∙ ap (λ p. row_calls x.walked.visits p.row) a.0.play) (calls_alike ws xs a.1)
