-- Rounds of the tables, one after the other, and the verdict under the last.
use Rattle.std.proofs.Common.{◌≡◌, ◌≤◌, ℕ, suc, List, [], ◌∷◌, sym, ap, subst, ◌∙◌}
use Rattle.pb_language.specs.Program.{Inventory, Program}
use Rattle.pb_language.specs.Scope.{Later, View}
use Rattle.pb_language.specs.Tables.{HostWalk, all_walked, are_settled, budget_of, next_views, views_after}
use Rattle.pb_language.specs.Verdict.{first_offence, flow_verdict, found_laters, offence_verdict, settled_verdict, walked_verdict}
use Rattle.pb_walks.specs.Agree.{AllHostsAgree, LatersAgree, ViewsAgree}
use Rattle.pb_walks.proofs.Agreeing.{views_own, views_through}
use Rattle.pb_walks.proofs.SameBudget.{same_budget}
use Rattle.pb_walks.proofs.SameOffence.{same_offence}
use Rattle.pb_walks.proofs.SameWalks.{all_walked_agree}
use Rattle.pb_walks.proofs.SameWrites.{next_views_agree, same_settled}
use Rattle.pb_walks.proofs.Settles.{rounds_settle, verdict_is_walked}

pub views_back : (vs us : List View) → ViewsAgree vs us → ViewsAgree us vs
views_back vs us v = record { hosts = λ g. sym (v.hosts g); slots = λ g. ((v.slots g).1, (v.slots g).0); well = v.well_too; well_too = v.well }

pub laters_through : (ls ms ns : List (List Later)) → LatersAgree ls ms → LatersAgree ms ns → LatersAgree ls ns
laters_through [] [] [] a b = tt
laters_through [] [] (n ∷ ns) a b = b
laters_through [] (m ∷ ms) [] a b = tt
laters_through [] (m ∷ ms) (n ∷ ns) a b = (λ p g x. a.0 p g x ∙ b.0 p g x, laters_through [] ms ns a.1 b.1)
laters_through (l ∷ ls) [] [] a b = a
laters_through (l ∷ ls) [] (n ∷ ns) a b = (λ p g x. a.0 p g x ∙ b.0 p g x, laters_through ls [] ns a.1 b.1)
laters_through (l ∷ ls) (m ∷ ms) [] a b = (λ p g x. a.0 p g x ∙ b.0 p g x, laters_through ls ms [] a.1 b.1)
laters_through (l ∷ ls) (m ∷ ms) (n ∷ ns) a b = (λ p g x. a.0 p g x ∙ b.0 p g x, laters_through ls ms ns a.1 b.1)

module _ (i : Inventory) (ps : Program) (vs : List View) (ls : List (List Later)) (n : ℕ) (v : ViewsAgree vs (views_after n i ps (found_laters ps i))) (l : LatersAgree ls (found_laters ps i)) (ws : List HostWalk) (a : AllHostsAgree ws (all_walked i ps vs ls)) where
  abbrev found : List (List Later)
  found = found_laters ps i

  -- one round more
  pub round_more : (us : List View) → ViewsAgree us (next_views ws vs) → ViewsAgree us (views_after (suc n) i ps found)
  round_more us u =
      let here = all_walked i ps vs ls in
      let before = views_after n i ps found in
      let own = views_own vs v.well in
      views_through us (next_views ws vs) (views_after (suc n) i ps found) u
      (views_through (next_views ws vs) (next_views here vs) (views_after (suc n) i ps found) (next_views_agree ws here vs vs a own)
      (next_views_agree here (all_walked i ps before found) vs before (all_walked_agree i ps vs before ls found v l) v))

  -- that changes nothing is the last
  pub round_same : (us : List View) → ViewsAgree us (next_views ws vs) → us ≡ vs → n ≤ 4 → ViewsAgree vs (views_after 4 i ps found)
  round_same us u e le =
      let before = views_after n i ps found in
      let next = subst (λ (x : List View). ViewsAgree x (views_after (suc n) i ps found)) e (round_more us u) in
      views_through vs before (views_after 4 i ps found) v
      (rounds_settle i ps found n 4 (views_through before vs (views_after (suc n) i ps found) (views_back vs before v) next) le)

-- the verdict on ways that agree with those under the fourth table
pub round_verdict : (i : Inventory) (ps : Program) (vs : List View) (ls : List (List Later)) (ws : List HostWalk) → ViewsAgree vs (views_after 4 i ps (found_laters ps i)) → LatersAgree ls (found_laters ps i)
    → AllHostsAgree ws (all_walked i ps vs ls) → walked_verdict vs ws ≡ flow_verdict ps i
round_verdict i ps vs ls ws v l a =
    let here = all_walked i ps vs ls in
    let own = views_own vs v.well in
    ap (λ o. offence_verdict o (settled_verdict (are_settled ws vs) (budget_of ws))) (same_offence ws here a)
    ∙ ap (λ q. offence_verdict (first_offence here) (settled_verdict q (budget_of ws))) (same_settled ws here vs vs a own)
    ∙ ap (λ k. offence_verdict (first_offence here) (settled_verdict (are_settled here vs) k)) (same_budget ws here a)
    ∙ verdict_is_walked i ps vs here v (all_walked_agree i ps vs vs ls (found_laters ps i) own l)
