-- Walks that agree write the same: whether that is below a view has one answer, and what views become by it agrees.
use Rattle.std.proofs.Common.{◌≡◌, List, [], ◌∷◌, Bool, ◌&&◌, ◌||◌, bytes_eq, refl, ap, subst, ◌∙◌}
use Rattle.pb_semantics.specs.Kind.{Slots, no_slots}
use Rattle.pb_language.specs.Expression.{Name}
use Rattle.pb_language.specs.Scope.{View, view_of, has_view}
use Rattle.pb_language.specs.Judgement.{task_writes}
use Rattle.pb_language.specs.Walk.{Visit}
use Rattle.pb_language.specs.Tables.{PlayWalk, HostWalk, with_writes, with_visits, with_plays, next_views, writes_below, visits_below, plays_below, are_settled}
use Rattle.pb_language.specs.Ordered.{SetsLe}
use Rattle.pb_language.specs.Wells.{WellSets}
use Rattle.pb_language.proofs.After.{after_claim}
use Rattle.pb_language.proofs.Rounds.{writes_well}
use Rattle.pb_language.proofs.ExitsUp.{exits_up}
use Rattle.pb_language.proofs.TablesUp.{writes_up, below_both}
use Rattle.pb_walks.specs.Agree.{SlotsAgree, ViewsAgree, VisitsAgree, AllVisitsAgree, AllPlaysAgree, AllHostsAgree}
use Rattle.pb_walks.specs.Laws.{SameSettled, NextViewsAgree}
use Rattle.pb_walks.proofs.Agreeing.{SameSlots, slots_own, either_same}

module _ (v w : Visit) (a : VisitsAgree v w) where
  first_well : WellSets (task_writes v.setting v.visited v.env)
  first_well = (after_claim v.setting a.settings.well v.visited v.env a.well).2

  second_well : WellSets (task_writes w.setting w.visited w.env)
  second_well = (after_claim w.setting a.settings.well_too w.visited w.env a.well_too).2

  writes_agree : SetsLe (task_writes v.setting v.visited v.env) (task_writes w.setting w.visited w.env) × SetsLe (task_writes w.setting w.visited w.env) (task_writes v.setting v.visited v.env)
  writes_agree =
      let s = a.settings in
      let t = v.visited in
      subst (λ u. SetsLe (task_writes v.setting v.visited v.env) (task_writes w.setting u w.env) × SetsLe (task_writes w.setting u w.env) (task_writes v.setting v.visited v.env)) a.visited
      ((exits_up v.setting w.setting t v.env w.env s.well s.well_too a.well a.well_too s.first a.envs.0).2, (exits_up w.setting v.setting t w.env v.env s.well_too s.well a.well_too a.well s.second a.envs.1).2)

  writes_same : (ss ts : Slots) → SameSlots ss ts → SameSlots (with_writes (task_writes v.setting v.visited v.env) ss) (with_writes (task_writes w.setting w.visited w.env) ts)
  writes_same ss ts x =
      let r = task_writes v.setting v.visited v.env in
      let s = task_writes w.setting w.visited w.env in
      let both = writes_agree in (
        (writes_up r s ss ts first_well second_well x.1 x.2 both.0 x.0.0, writes_up s r ts ss second_well first_well x.2 x.1 both.1 x.0.1),
        writes_well r ss first_well x.1,
        writes_well s ts second_well x.2,
      )

  below_same : (ss ts : Slots) → SlotsAgree ss ts → writes_below (task_writes v.setting v.visited v.env) ss ≡ writes_below (task_writes w.setting w.visited w.env) ts
  below_same ss ts x = below_both (task_writes v.setting v.visited v.env) (task_writes w.setting w.visited w.env) ss ts first_well second_well writes_agree x

both_hold : (a b c d : Bool) → a ≡ c → b ≡ d → a && b ≡ c && d
both_hold a b c d x y = ap (λ q. q && b) x ∙ ap (λ q. c && q) y

-- below a view
visits_same : (vs us : List Visit) (ss ts : Slots) → AllVisitsAgree vs us → SlotsAgree ss ts → visits_below vs ss ≡ visits_below us ts
visits_same [] [] ss ts a x = refl
visits_same [] (u ∷ us) ss ts a x = absurd a
visits_same (v ∷ vs) [] ss ts a x = absurd a
visits_same (v ∷ vs) (u ∷ us) ss ts a x =
    both_hold (writes_below (task_writes v.setting v.visited v.env) ss) (visits_below vs ss) (writes_below (task_writes u.setting u.visited u.env) ts) (visits_below us ts) (below_same v u a.0 ss ts x) (visits_same vs us ss ts a.1 x)

pub plays_same : (ws xs : List PlayWalk) (ss ts : Slots) → AllPlaysAgree ws xs → SlotsAgree ss ts → plays_below ws ss ≡ plays_below xs ts
plays_same [] [] ss ts a x = refl
plays_same [] (y ∷ xs) ss ts a x = absurd a
plays_same (w ∷ ws) [] ss ts a x = absurd a
plays_same (w ∷ ws) (y ∷ xs) ss ts a x =
    both_hold (visits_below w.walked.visits ss) (plays_below ws ss) (visits_below y.walked.visits ts) (plays_below xs ts) (visits_same w.walked.visits y.walked.visits ss ts a.0.visits x) (plays_same ws xs ss ts a.1 x)

pub same_settled : SameSettled
same_settled [] [] vs us a v = refl
same_settled [] (x ∷ xs) vs us a v = absurd a
same_settled (w ∷ ws) [] vs us a v = absurd a
same_settled (w ∷ ws) (x ∷ xs) vs us a v =
    both_hold (plays_below w.plays (view_of w.host vs)) (are_settled ws vs) (plays_below x.plays (view_of x.host us)) (are_settled xs us)
    (plays_same w.plays x.plays (view_of w.host vs) (view_of w.host us) a.0.plays (v.slots w.host) ∙ ap (λ h. plays_below x.plays (view_of h us)) a.0.host) (same_settled ws xs vs us a.1 v)

-- what a view becomes
pub visits_written : (vs us : List Visit) (ss ts : Slots) → AllVisitsAgree vs us → SameSlots ss ts → SameSlots (with_visits vs ss) (with_visits us ts)
visits_written [] [] ss ts a x = x
visits_written [] (u ∷ us) ss ts a x = absurd a
visits_written (v ∷ vs) [] ss ts a x = absurd a
visits_written (v ∷ vs) (u ∷ us) ss ts a x = visits_written vs us (with_writes (task_writes v.setting v.visited v.env) ss) (with_writes (task_writes u.setting u.visited u.env) ts) a.1 (writes_same v u a.0 ss ts x)

pub plays_written : (ws xs : List PlayWalk) (ss ts : Slots) → AllPlaysAgree ws xs → SameSlots ss ts → SameSlots (with_plays ws ss) (with_plays xs ts)
plays_written [] [] ss ts a x = x
plays_written [] (y ∷ xs) ss ts a x = absurd a
plays_written (w ∷ ws) [] ss ts a x = absurd a
plays_written (w ∷ ws) (y ∷ xs) ss ts a x = plays_written ws xs (with_visits w.walked.visits ss) (with_visits y.walked.visits ts) a.1 (visits_written w.walked.visits y.walked.visits ss ts a.0.visits x)

module _ (vs us : List View) (v : ViewsAgree vs us) (g : Name) where
  next_slots : (ws xs : List HostWalk) → AllHostsAgree ws xs → SameSlots (view_of g (next_views ws vs)) (view_of g (next_views xs us))
  next_slots [] [] a = (slots_own no_slots (refl, tt), (refl, tt), (refl, tt))
  next_slots [] (x ∷ xs) a = absurd a
  next_slots (w ∷ ws) [] a = absurd a
  next_slots (w ∷ ws) (x ∷ xs) a =
      let h = w.host in
      let here = plays_written w.plays x.plays (view_of h vs) (view_of h us) a.0.plays (v.slots h, v.well h, v.well_too h) in
      either_same (bytes_eq g h) (bytes_eq g x.host) (with_plays w.plays (view_of h vs)) (view_of g (next_views ws vs)) (with_plays x.plays (view_of x.host us)) (view_of g (next_views xs us)) (ap (λ n. bytes_eq g n) a.0.host)
      (subst (λ n. SameSlots (with_plays w.plays (view_of h vs)) (with_plays x.plays (view_of n us))) a.0.host here) (next_slots ws xs a.1)

  next_hosts : (ws xs : List HostWalk) → AllHostsAgree ws xs → has_view g (next_views ws vs) ≡ has_view g (next_views xs us)
  next_hosts [] [] a = refl
  next_hosts [] (x ∷ xs) a = absurd a
  next_hosts (w ∷ ws) [] a = absurd a
  next_hosts (w ∷ ws) (x ∷ xs) a = ap (λ h. bytes_eq g h || has_view g (next_views ws vs)) a.0.host ∙ ap (λ q. bytes_eq g x.host || q) (next_hosts ws xs a.1)

pub next_views_agree : NextViewsAgree
next_views_agree ws xs vs us a v = record {
  hosts = λ g. next_hosts vs us v g ws xs a;
  slots = λ g. (next_slots vs us v g ws xs a).0;
  well = λ g. (next_slots vs us v g ws xs a).1;
  well_too = λ g. (next_slots vs us v g ws xs a).2;
}
