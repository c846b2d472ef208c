-- The flat machine's steps, by what was evaluated.
use Rattle.std.proofs.Common.{◌≡◌, ℕ, ◌+◌, List, Bool, true, false, not, ◌&&◌, cond, ap, ap₂, ◌∙◌}
use Rattle.pb_language.specs.Start.{Pass, call_count}
use Rattle.pb_language.specs.Give.{Answer, Admitted, admitted, breached, unreached, Ended, asks_again, last_attempts, any_changed, any_failed}
use Rattle.pb_language.specs.Notify.{handlers_are}
use Rattle.pb_language.specs.Machine.{start, give, notified_by}
use Rattle.pb_machine.specs.Hosts.{stands, works, left_play, arrived}
use Rattle.pb_machine.specs.Ways.{step_at}
use Rattle.pb_machine.specs.Run.{FlatState, plan_steps, put_host, enabled, of_host, is_out, is_possible, happened, on_host, on_start, on_plan, on_give, on_admitted, on_results, on_ended, on_notified, on_again, after_task, target_on, step}
use Rattle.pb_history.specs.Happens.{Starts, Works, step_in, answered, left_by, Comes}
use Rattle.pb_core.specs.Hosts.{left_recap}

pub steps_start : (s : FlatState) (k : ℕ) (ps : List Pass) (w : Starts s k ps)
    → step s (start k) ≡ record s { hosts = put_host k (record w.host { stage = works w.node 0 ps }) s.hosts; handed = s.handed + call_count ps }
steps_start s k ps w =
    let t = (step_at (plan_steps w.batch) w.node).task in
    ap (λ b. cond b (happened s s.batches (start k)) s) w.enabled
    ∙ ap (λ bs. happened s bs (start k)) w.batches
    ∙ ap (λ o. on_host s o (λ h. on_start s w.batch k h h.stage)) w.there
    ∙ ap (on_start s w.batch k w.host) w.stage
    ∙ ap (on_plan s k w.host w.node) w.plans

module _ (s : FlatState) (k : ℕ) (w : Works s k) (xs : List Answer) where
  can_give : enabled s (give k xs) ≡ true
  can_give =
      ap₂ (λ x bs. not x && is_possible s bs (give k xs)) w.going w.batches
      ∙ ap (λ o. of_host o (λ h. is_out h.stage)) w.there
      ∙ ap is_out w.stage

  gives : (a : Admitted) → answered w xs ≡ a → step s (give k xs) ≡ on_admitted s w.batch k w.host w.node w.attempts w.passes a
  gives a e =
      ap (λ b. cond b (happened s s.batches (give k xs)) s) can_give
      ∙ ap (λ bs. happened s bs (give k xs)) w.batches
      ∙ ap (λ o. on_host s o (λ h. on_give s w.batch k h xs h.stage)) w.there
      ∙ ap (on_give s w.batch k w.host xs) w.stage
      ∙ ap (on_admitted s w.batch k w.host w.node w.attempts w.passes) e

  pub steps_left : (is_reached : Bool) → answered w xs ≡ left_by is_reached → step s (give k xs) ≡ record s { hosts = put_host k (record w.host { stage = stands left_play; recap = left_recap is_reached w.host.recap }) s.hosts }
  steps_left true e = gives breached e
  steps_left false e = gives unreached e

  ends : (es : List Ended) (c : Comes w xs es) → step s (give k xs) ≡ cond (asks_again (step_in w).task w.attempts es) (on_again s k w.host w.node w.attempts w.passes) (on_ended s w.batch k w.host (step_in w) (last_attempts es))
  ends es c = gives (admitted c.owns) c.admits ∙ ap (on_results s w.batch k w.host w.node w.attempts w.passes) c.ends

  pub steps_again : (es : List Ended) → Comes w xs es → asks_again (step_in w).task w.attempts es ≡ true → step s (give k xs) ≡ on_again s k w.host w.node w.attempts w.passes
  steps_again es c e = ends es c ∙ ap (λ b. cond b (on_again s k w.host w.node w.attempts w.passes) (on_ended s w.batch k w.host (step_in w) (last_attempts es))) e

  pub steps_settled : (es : List Ended) (ms : List ℕ) → Comes w xs es → asks_again (step_in w).task w.attempts es ≡ false
      → notified_by w.batch.play (step_in w).task (any_changed (last_attempts es) && not (any_failed (last_attempts es))) ≡ handlers_are ms
      → step s (give k xs) ≡ record s { hosts = put_host k (arrived (plan_steps w.batch) (target_on (step_in w) (last_attempts es)) (after_task w.host (step_in w).task (last_attempts es) ms)) s.hosts }
  steps_settled es ms c e f =
      ends es c ∙ ap (λ b. cond b (on_again s k w.host w.node w.attempts w.passes) (on_ended s w.batch k w.host (step_in w) (last_attempts es))) e
      ∙ ap (on_notified s w.batch k w.host (step_in w) (last_attempts es)) f
