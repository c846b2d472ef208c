-- A run that is made anew, event by event.
use Rattle.std.proofs.Common.{◌≡◌, List, [], ◌∷◌, ◌++◌, map, append_assoc, Bool, true, false, cond, refl, sym, ap, ap₂, ◌∙◌}
use Rattle.std.proofs.lemmas.List.{append-nil}
use Rattle.pb_language.specs.Machine as machine
use Rattle.pb_language.specs.Machine.{State, enabled, step}
use Rattle.pb_run.specs.Follows.{EventView, enabled_of, event_view}
use Rattle.pb_run.specs.Openings.{state_after}
use Rattle.pb_run.specs.Recorded.{data_of, event_data}
use Rattle.pb_run.specs.declared.event.Event.{Event}
use Rattle.pb_executor.specs.Replays.{FollowsRun, with_enabled}
use Rattle.pb_executor.specs.States.{RunState, opening_of, state_of}
use Rattle.pb_executor.proofs.Driven.{moved}
use Rattle.pb_executor.proofs.Turns.{run_more}

abbrev events_in : List EventView → List machine.Event
events_in vs = map (λ v. v.0) vs

data_is : (es : List Event) → data_of es ≡ events_in (map event_view es)
data_is [] = refl
data_is (e ∷ es) = ap (λ xs. event_data e ∷ xs) (data_is es)

events_more : (vs : List EventView) (v : EventView) → events_in (vs ++ v ∷ []) ≡ events_in vs ++ v.0 ∷ []
events_more [] v = refl
events_more (w ∷ vs) v = ap (λ xs. w.0 ∷ xs) (events_more vs v)

-- the history with an event behind it, where that can happen
module _ (v : EventView) (old new : RunState) (f : FollowsRun v old new) where
  abbrev vs : List EventView
  vs = map event_view old.history

  stands : (ws : List EventView) → map event_view new.history ≡ ws → state_of new ≡ state_after (opening_of old) (events_in ws)
  stands ws e = moved old new f.same ∙ ap (state_after (opening_of old)) (data_is new.history ∙ ap events_in e)

  pub follows_all : (ws : List EventView) → with_enabled new ws ≡ with_enabled old (v ∷ ws)
  follows_all ws = by (enabled (state_of old) v.0) f.events where
    by : (q : Bool) → map event_view new.history ≡ vs ++ cond q (v ∷ []) []
        → with_enabled new ws ≡ vs ++ cond q (v ∷ enabled_of (step (state_of old) v.0) ws) (enabled_of (state_of old) ws)
    by true e =
        let after : state_of new ≡ step (state_of old) v.0 =
        stands (vs ++ v ∷ []) e ∙ ap (state_after (opening_of old)) (events_more vs v)
        ∙ run_more (machine.opening (opening_of old).program (opening_of old).inventory (opening_of old).forks) (events_in vs) v.0
        ∙ ap (λ es. step (state_after (opening_of old) es) v.0) (sym (data_is old.history)) in
        ap₂ (λ xs s. xs ++ enabled_of s ws) e after ∙ append_assoc vs (v ∷ []) (enabled_of (step (state_of old) v.0) ws)
    by false e =
        let same : map event_view new.history ≡ vs = e ∙ append-nil vs in
        let after : state_of new ≡ state_of old = stands vs same ∙ ap (state_after (opening_of old)) (sym (data_is old.history)) in
        ap₂ (λ xs s. xs ++ enabled_of s ws) same after
