-- The verdict and the tables make the same of walks under tables that say the same of what is read.
use Rattle.std.proofs.Common.{◌≡◌, List, [], ◌∷◌, Bool, false, ◌&&◌, Some, option_map, refl, ap, ◌∙◌}
use Rattle.pb_semantics.specs.Kind.{Slots}
use Rattle.pb_language.specs.Expression.{Name, Root}
use Rattle.pb_language.specs.Scope.{View, Later, view_of}
use Rattle.pb_language.specs.Judgement.{task_fault, task_writes}
use Rattle.pb_language.specs.Walk.{Visit}
use Rattle.pb_language.specs.Program.{Inventory, Program}
use Rattle.pb_language.specs.Tables.{PlayWalk, HostWalk, all_walked, with_writes, with_visits, with_plays, next_views, writes_below, visits_below, plays_below, are_settled}
use Rattle.pb_language.specs.Verdict.{code_of, lesser, earlier, visit_offence, visits_offence, plays_offence, first_offence}
use Rattle.pb_walks.proofs.AloneFaults.{both}
use Rattle.pb_walks.proofs.AloneWalks.{AreAlike}
use Rattle.pb_others.specs.Rooted.{plays_have_root}
use Rattle.pb_others.proofs.ThereSpots.{SameBut}
use Rattle.pb_others.proofs.ThereVisits.{VisitsAlike, AllVisitsAlike}
use Rattle.pb_others.proofs.TherePlays.{AllPlaysAlike, AllHostsAlike, hosts_alike}
use Rattle.pb_others.proofs.ThereBudget.{budget_alike}

module _ (q : Root → Bool) where
  -- the first offence
  visit_offends : (h : Name) (v w : Visit) → VisitsAlike q v w → visit_offence h v ≡ visit_offence h w
  visit_offends h v w a =
      ap (λ o. option_map (λ f. record { code = code_of f; line = v.visited.line; host = Some h }) o) a.faults
      ∙ ap (λ t. option_map (λ f. record { code = code_of f; line = t.line; host = Some h }) (task_fault w.setting w.visited w.env)) a.visited

  visits_offend : (h : Name) (vs us : List Visit) → AllVisitsAlike q vs us → visits_offence h vs ≡ visits_offence h us
  visits_offend h [] [] a = refl
  visits_offend h [] (u ∷ us) a = absurd a
  visits_offend h (v ∷ vs) [] a = absurd a
  visits_offend h (v ∷ vs) (u ∷ us) a = both lesser _ _ _ _ (visit_offends h v u a.0) (visits_offend h vs us a.1)

  plays_offend : (h : Name) (ws xs : List PlayWalk) → AllPlaysAlike q ws xs → plays_offence h ws ≡ plays_offence h xs
  plays_offend h [] [] a = refl
  plays_offend h [] (x ∷ xs) a = absurd a
  plays_offend h (w ∷ ws) [] a = absurd a
  plays_offend h (w ∷ ws) (x ∷ xs) a = both lesser _ _ _ _ (visits_offend h w.walked.visits x.walked.visits a.0.visits) (plays_offend h ws xs a.1)

  offence_alike : (ws xs : List HostWalk) → AllHostsAlike q ws xs → first_offence ws ≡ first_offence xs
  offence_alike [] [] a = refl
  offence_alike [] (x ∷ xs) a = absurd a
  offence_alike (w ∷ ws) [] a = absurd a
  offence_alike (w ∷ ws) (x ∷ xs) a = both earlier _ _ _ _ (ap (λ h. plays_offence h w.plays) a.0.host ∙ plays_offend x.host w.plays x.plays a.0.plays) (offence_alike ws xs a.1)

  -- whether writes are below a view
  visits_settle : (vs us : List Visit) (ss : Slots) → AllVisitsAlike q vs us → visits_below vs ss ≡ visits_below us ss
  visits_settle [] [] ss a = refl
  visits_settle [] (u ∷ us) ss a = absurd a
  visits_settle (v ∷ vs) [] ss a = absurd a
  visits_settle (v ∷ vs) (u ∷ us) ss a = both (λ x y. x && y) _ _ _ _ (ap (λ w. writes_below w ss) a.0.writes) (visits_settle vs us ss a.1)

  plays_settle : (ws xs : List PlayWalk) (ss : Slots) → AllPlaysAlike q ws xs → plays_below ws ss ≡ plays_below xs ss
  plays_settle [] [] ss a = refl
  plays_settle [] (x ∷ xs) ss a = absurd a
  plays_settle (w ∷ ws) [] ss a = absurd a
  plays_settle (w ∷ ws) (x ∷ xs) ss a = both (λ x y. x && y) _ _ _ _ (visits_settle w.walked.visits x.walked.visits ss a.0.visits) (plays_settle ws xs ss a.1)

  settled_alike : (vs : List View) (ws xs : List HostWalk) → AllHostsAlike q ws xs → are_settled ws vs ≡ are_settled xs vs
  settled_alike vs [] [] a = refl
  settled_alike vs [] (x ∷ xs) a = absurd a
  settled_alike vs (w ∷ ws) [] a = absurd a
  settled_alike vs (w ∷ ws) (x ∷ xs) a =
      both (λ x y. x && y) _ _ _ _ (plays_settle w.plays x.plays (view_of w.host vs) a.0.plays ∙ ap (λ h. plays_below x.plays (view_of h vs)) a.0.host) (settled_alike vs ws xs a.1)

  -- what a view becomes by them
  visits_write : (vs us : List Visit) (ss : Slots) → AllVisitsAlike q vs us → with_visits vs ss ≡ with_visits us ss
  visits_write [] [] ss a = refl
  visits_write [] (u ∷ us) ss a = absurd a
  visits_write (v ∷ vs) [] ss a = absurd a
  visits_write (v ∷ vs) (u ∷ us) ss a = ap (λ w. with_visits vs (with_writes w ss)) a.0.writes ∙ visits_write vs us (with_writes (task_writes u.setting u.visited u.env) ss) a.1

  plays_write : (ws xs : List PlayWalk) (ss : Slots) → AllPlaysAlike q ws xs → with_plays ws ss ≡ with_plays xs ss
  plays_write [] [] ss a = refl
  plays_write [] (x ∷ xs) ss a = absurd a
  plays_write (w ∷ ws) [] ss a = absurd a
  plays_write (w ∷ ws) (x ∷ xs) ss a = ap (with_plays ws) (visits_write w.walked.visits x.walked.visits ss a.0.visits) ∙ plays_write ws xs (with_visits x.walked.visits ss) a.1

  next_alike : (vs : List View) (ws xs : List HostWalk) → AllHostsAlike q ws xs → next_views ws vs ≡ next_views xs vs
  next_alike vs [] [] a = refl
  next_alike vs [] (x ∷ xs) a = absurd a
  next_alike vs (w ∷ ws) [] a = absurd a
  next_alike vs (w ∷ ws) (x ∷ xs) a =
      ap (λ h. record { host = h; slots = with_plays w.plays (view_of h vs) } ∷ next_views ws vs) a.0.host
      ∙ ap (λ ss. record { host = x.host; slots = ss } ∷ next_views ws vs) (plays_write w.plays x.plays (view_of x.host vs) a.0.plays)
      ∙ ap (λ us. record { host = x.host; slots = with_plays x.plays (view_of x.host vs) } ∷ us) (next_alike vs ws xs a.1)

pub there_walks : (q : Root → Bool) (inventory : Inventory) (ps : Program) (vs us : List View) (ls : List (List Later)) → plays_have_root q ps ≡ false → SameBut q us vs → AreAlike (all_walked inventory ps vs ls) (all_walked inventory ps us ls)
there_walks q inventory ps vs us ls n s =
    let ws = all_walked inventory ps vs ls in
    let xs = all_walked inventory ps us ls in
    let a = hosts_alike q inventory vs us s ps ls inventory.hosts n in
    record { offence = offence_alike q ws xs a; budget = budget_alike q ws xs a; settled = λ ts. settled_alike q ts ws xs a; next = λ ts. next_alike q ts ws xs a }
