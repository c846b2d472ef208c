-- The host that starts next, and what comes of events that aren't stuck.
use Rattle.std.proofs.Common.{◌≡◌, ◌⊎◌, ℕ, suc, ◌+◌, List, [], ◌∷◌, Bool, true, false, not, ◌&&◌, nat_lt, cond, Option, Some, None, option_map, inl, inr, refl, sym, ap, ap₂, subst, ◌∙◌, arith}
use Rattle.pb_semantics.proofs.Bools.{and-right}
use Rattle.pb_language.specs.Drive.{Starting, lower}
use Rattle.pb_language.specs.Give.{Answer, Own, Admitted, admitted, Ended, Results, results_are, no_results, end_all, asks_again, any_changed, any_failed, last_attempts}
use Rattle.pb_language.specs.Notify.{Notified, handlers_are, names_nothing}
use Rattle.pb_language.specs.Program.{Batch}
use Rattle.pb_language.specs.Start.{Pass, Plan, planned, halted, plan_of}
use Rattle.pb_language.specs.Machine.{Event, notified_by, start, give}
use Rattle.pb_machine.specs.Hosts.{FlatHost, FlatStage, stands, works, at, at_end, left_play}
use Rattle.pb_machine.specs.Ways.{step_at}
use Rattle.pb_machine.specs.Run.{FlatState, current_steps, world_of, host_at, enabled, of_host, is_out, is_possible, happened, on_host, on_start, on_plan, on_give, on_admitted, on_results, on_ended, on_notified, on_again, starting, first_starting, next_start, step, stuck_state}
use Rattle.pb_history.specs.Happens.{MayStart, task_of_start, Works, answered, step_in}
use Rattle.pb_history.specs.Laws.{GivesComeTo, GivesNotify, NextMayStart, StartsArePlanned}

lower_is : (a b : Option Starting) (x : Starting) → lower a b ≡ Some x → (a ≡ Some x) ⊎ (b ≡ Some x)
lower_is None b x e = inr e
lower_is (Some p) None x e = inl e
lower_is (Some p) (Some q) x e = by (nat_lt q.place p.place) e where
  by : (t : Bool) → cond t (Some q) (Some p) ≡ Some x → (Some p ≡ Some x) ⊎ (Some q ≡ Some x)
  by true f = inr f
  by false f = inl f

abbrev number_or : Option Starting → ℕ → ℕ
number_or None d = d
number_or (Some x) d = x.number

abbrev start_at : ℕ → ℕ → Starting
start_at k p = record { number = k; place = p }

-- a host that can start stands before a task
record CanStart (s : FlatState) (k : ℕ) (g : FlatStage) (x : Starting) : Type 0 where
  node : ℕ
  number : x.number ≡ k
  stage : g ≡ stands (at node)
  enabled : enabled s (start k) ≡ true

can_start : (s : FlatState) (k : ℕ) (g : FlatStage) (x : Starting) → starting s k g ≡ Some x → CanStart s k g x
can_start s k (stands at_end) x e = cc
can_start s k (stands left_play) x e = cc
can_start s k (works n i ps) x e = cc
can_start s k (stands (at n)) x e = by (enabled s (start k)) refl e where
  by : (t : Bool) → enabled s (start k) ≡ t → cond t (Some (start_at k (step_at (current_steps s.batches) n).task.place)) None ≡ Some x → CanStart s k (stands (at n)) x
  by true f g = record { node = n; number = sym (ap (λ o. number_or o k) g); stage = refl; enabled = f }
  by false f g = cc

record Found (s : FlatState) (j : ℕ) (hs : List FlatHost) (x : Starting) : Type 0 where
  place : ℕ
  host : FlatHost
  there : host_at place hs ≡ Some host
  can : CanStart s (place + j) host.stage x

found : (s : FlatState) (j : ℕ) (hs : List FlatHost) (x : Starting) → first_starting s j hs ≡ Some x → Found s j hs x
found s j [] x e = cc
found s j (h ∷ hs) x e = elim (lower_is (starting s j h.stage) (first_starting s (suc j) hs) x e) [
  | inl f ↦ record {
    place = 0;
    host = h;
    there = refl;
    can = subst (λ n. CanStart s n h.stage x) (omega arith) (can_start s j h.stage x f);
  }
  | inr f ↦
      let more = found s (suc j) hs x f in
      record {
        place = suc more.place;
        host = more.host;
        there = more.there;
        can = subst (λ n. CanStart s n more.host.stage x) (omega arith) more.can;
      }
]

record Running (s : FlatState) : Type 0 where
  batch : Batch
  later : List Batch
  batches : s.batches ≡ batch ∷ later

-- while something can happen a batch runs
runs_batch : (s : FlatState) (e : Event) → enabled s e ≡ true → Running s
runs_batch s e on = by s.batches refl (and-right (not s.is_stopped) (is_possible s s.batches e) on) where
  by : (bs : List Batch) → s.batches ≡ bs → is_possible s bs e ≡ true → Running s
  by [] same q = cc
  by (b ∷ bs) same q = record { batch = b; later = bs; batches = same }

pub next_may_start : NextMayStart
next_may_start s k e = by (next_start s) refl e where
  by : (o : Option Starting) → next_start s ≡ o → option_map (λ x. x.number) o ≡ Some k → MayStart s k
  by None f g = cc
  by (Some x) f g =
      let it = found s 0 s.hosts x f in
      let same : it.place + 0 ≡ k = sym it.can.number ∙ ap (λ o. number_or (option_map (λ n. start_at n 0) o) 0) g in
      let here : it.place ≡ k = omega (arith, same) in
      let on : enabled s (start k) ≡ true = subst (λ n. enabled s (start n) ≡ true) same it.can.enabled in
      let batch = runs_batch s (start k) on in
      record {
        batch = batch.batch;
        later = batch.later;
        host = it.host;
        node = it.can.node;
        batches = batch.batches;
        there = subst (λ n. host_at n s.hosts ≡ Some it.host) here it.there;
        stage = it.can.stage;
        enabled = on;
      }

starts_with : (s : FlatState) (k : ℕ) (m : MayStart s k) (p : Plan) → plan_of (world_of s m.batch m.host (task_of_start m)) (task_of_start m) (task_of_start m).loop ≡ p → step s (start k) ≡ on_plan s k m.host m.node p
starts_with s k m p e =
    ap (λ b. cond b (happened s s.batches (start k)) s) m.enabled
    ∙ ap (λ bs. happened s bs (start k)) m.batches
    ∙ ap (λ o. on_host s o (λ h. on_start s m.batch k h h.stage)) m.there
    ∙ ap (on_start s m.batch k m.host) m.stage
    ∙ ap (on_plan s k m.host m.node) e

pub starts_are_planned : StartsArePlanned
starts_are_planned s k m fine = by (plan_of (world_of s m.batch m.host (task_of_start m)) (task_of_start m) (task_of_start m).loop) refl where
  by : (p : Plan) → plan_of (world_of s m.batch m.host (task_of_start m)) (task_of_start m) (task_of_start m).loop ≡ p
      → (ps : List Pass) × (plan_of (world_of s m.batch m.host (task_of_start m)) (task_of_start m) (task_of_start m).loop ≡ planned ps)
  by (planned ps) e = (ps, e)
  by (halted y) e = let no : true ≡ false = sym (ap (λ t. t.is_stuck) (starts_with s k m (halted y) e)) ∙ fine in cc

module _ (s : FlatState) (k : ℕ) (w : Works s k) (xs : List Answer) where
  can_give : enabled s (give k xs) ≡ true
  can_give =
      ap₂ (λ x bs. not x && is_possible s bs (give k xs)) w.going w.batches
      ∙ ap (λ o. of_host o (λ h. is_out h.stage)) w.there
      ∙ ap is_out w.stage

  gives : (a : Admitted) → answered w xs ≡ a → step s (give k xs) ≡ on_admitted s w.batch k w.host w.node w.attempts w.passes a
  gives a e =
      ap (λ b. cond b (happened s s.batches (give k xs)) s) can_give
      ∙ ap (λ bs. happened s bs (give k xs)) w.batches
      ∙ ap (λ o. on_host s o (λ h. on_give s w.batch k h xs h.stage)) w.there
      ∙ ap (on_give s w.batch k w.host xs) w.stage
      ∙ ap (on_admitted s w.batch k w.host w.node w.attempts w.passes) e

  gives_results : (os : List Own) (r : Results) → answered w xs ≡ admitted os → end_all (world_of s w.batch w.host (step_in w).task) (step_in w).task os ≡ r
      → step s (give k xs) ≡ on_results s w.batch k w.host w.node w.attempts w.passes r
  gives_results os r e f = gives (admitted os) e ∙ ap (on_results s w.batch k w.host w.node w.attempts w.passes) f

  pub come_to : (os : List Own) → (step s (give k xs)).is_stuck ≡ false → answered w xs ≡ admitted os
      → (es : List Ended) × (end_all (world_of s w.batch w.host (step_in w).task) (step_in w).task os ≡ results_are es)
  come_to os fine e = by (end_all (world_of s w.batch w.host (step_in w).task) (step_in w).task os) refl where
    by : (r : Results) → end_all (world_of s w.batch w.host (step_in w).task) (step_in w).task os ≡ r
        → (es : List Ended) × (end_all (world_of s w.batch w.host (step_in w).task) (step_in w).task os ≡ results_are es)
    by (results_are es) f = (es, f)
    by (no_results y) f = let no : true ≡ false = sym (ap (λ t. t.is_stuck) (gives_results os (no_results y) e f)) ∙ fine in cc

  pub notify : (os : List Own) (es : List Ended) → (step s (give k xs)).is_stuck ≡ false → answered w xs ≡ admitted os
      → end_all (world_of s w.batch w.host (step_in w).task) (step_in w).task os ≡ results_are es → asks_again (step_in w).task w.attempts es ≡ false
      → (ms : List ℕ) × (notified_by w.batch.play (step_in w).task (any_changed (last_attempts es) && not (any_failed (last_attempts es))) ≡ handlers_are ms)
  notify os es fine e f again = by (notified_by w.batch.play (step_in w).task (any_changed (last_attempts es) && not (any_failed (last_attempts es)))) refl where
    by : (n : Notified) → notified_by w.batch.play (step_in w).task (any_changed (last_attempts es) && not (any_failed (last_attempts es))) ≡ n
        → (ms : List ℕ) × (notified_by w.batch.play (step_in w).task (any_changed (last_attempts es) && not (any_failed (last_attempts es))) ≡ handlers_are ms)
    by (handlers_are ms) g = (ms, g)
    by names_nothing g =
        let gone : step s (give k xs) ≡ stuck_state s =
        gives_results os (results_are es) e f
        ∙ ap (λ b. cond b (on_again s k w.host w.node w.attempts w.passes) (on_ended s w.batch k w.host (step_in w) (last_attempts es))) again
        ∙ ap (on_notified s w.batch k w.host (step_in w) (last_attempts es)) g in
        let no : true ≡ false = sym (ap (λ t. t.is_stuck) gone) ∙ fine in cc

pub gives_come_to : GivesComeTo
gives_come_to s k w xs os fine e = come_to s k w xs os fine e

pub gives_notify : GivesNotify
gives_notify s k w xs os es fine e f again = notify s k w xs os es fine e f again
