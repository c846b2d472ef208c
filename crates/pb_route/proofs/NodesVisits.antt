-- The visits of a row are its nodes' tasks, each with what is known there.
use Rattle.std.proofs.Common.{◌≡◌, ◌∙◌, ℕ, suc, ◌+◌, List, [], ◌∷◌, ◌++◌, length, refl, ap, sym, arith, append_assoc}
use Rattle.pb_language.specs.Judgement.{Exit}
use Rattle.pb_language.specs.Links.{flush_at, handler_places, size, values_at}
use Rattle.pb_language.specs.Nodes.{flush_visits, visits_of}
use Rattle.pb_language.specs.Setting.{Setting}
use Rattle.pb_language.specs.Task.{Handlers, no_handlers, handler, Row, Task, end, task, flush, section, block}
use Rattle.pb_language.specs.Walk.{visits_at}
use Rattle.pb_flow.specs.Flow.{flush_tasks, tasks_of}
use Rattle.pb_flow.proofs.Sizes.{flush-tasks, row-tasks}
use Rattle.pb_route.specs.Visited.{nodes_visits}

module _ (st : Setting) (val : ℕ → Exit) where
  -- nodes, and those behind them
  pub visits-append : (ts us : List Task) (n m : ℕ) → n + length ts ≡ m → nodes_visits st (ts ++ us) val n ≡ nodes_visits st ts val n ++ nodes_visits st us val m
  visits-append [] us n m e = ap (nodes_visits st us val) (omega arith)
  visits-append (t ∷ ts) us n m e =
      ap (λ vs. visits_at st t (val n) ++ vs) (visits-append ts us (suc n) m (omega arith))
      ∙ sym (append_assoc (visits_at st t (val n)) (nodes_visits st ts val (suc n)) (nodes_visits st us val m))

  flush-visits : (hs : Handlers) (n : ℕ) → flush_visits st hs (flush_at val hs n) ≡ nodes_visits st (flush_tasks hs) val n
  flush-visits no_handlers n = refl
  flush-visits (handler i t hs) n = ap (λ vs. visits_at st t (val n) ++ vs) (flush-visits hs (suc n))

  pub row-visits : (row : Row) (n : ℕ) → visits_of st row (values_at val row n) ≡ nodes_visits st (tasks_of row) val n
  row-visits end n = refl
  row-visits (task t row) n = ap (λ vs. visits_at st t (val n) ++ vs) (row-visits row (suc n))
  row-visits (flush hs row) n =
      let m = n + handler_places hs in
      rw (flush-visits hs n, row-visits row m, visits-append (flush_tasks hs) (tasks_of row) n m (omega (arith, flush-tasks hs))) refl
  row-visits (section body hs row) n =
      let a = n + size body in
      let f = a + handler_places hs in
      let m = f + handler_places hs in
      let fs = flush_tasks hs in
      rw (
        row-visits body n,
        flush-visits hs a,
        flush-visits hs f,
        row-visits row m,
        visits-append (tasks_of body) (fs ++ (fs ++ tasks_of row)) n a (omega (arith, row-tasks body)),
        visits-append fs (fs ++ tasks_of row) a f (omega (arith, flush-tasks hs)),
        visits-append fs (tasks_of row) f m (omega (arith, flush-tasks hs)),
      ) refl
  row-visits (block d body saves rescued always row) n =
      let r = n + size body in
      let a = r + size rescued in
      let f = a + size always in
      let m = f + size always in
      let ts = tasks_of always in
      rw (
        row-visits body n,
        row-visits rescued r,
        row-visits always a,
        row-visits always f,
        row-visits row m,
        visits-append (tasks_of body) (tasks_of rescued ++ (ts ++ (ts ++ tasks_of row))) n r (omega (arith, row-tasks body)),
        visits-append (tasks_of rescued) (ts ++ (ts ++ tasks_of row)) r a (omega (arith, row-tasks rescued)),
        visits-append ts (ts ++ tasks_of row) a f (omega (arith, row-tasks always)),
        visits-append ts (tasks_of row) f m (omega (arith, row-tasks always)),
      ) refl
