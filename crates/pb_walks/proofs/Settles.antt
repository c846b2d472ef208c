-- A round that changes nothing is the last that does, and agreeing tables and walks have one verdict.
use Rattle.std.proofs.Common.{◌≡◌, ◌≤◌, ℕ, zero, suc, ◌⊎◌, inl, inr, List, ap, subst, ◌∙◌, arith}
use Rattle.std.proofs.lemmas.Bool.{cases_eq}
use Rattle.pb_language.specs.Scope.{View, Later}
use Rattle.pb_language.specs.Program.{Inventory, Program}
use Rattle.pb_language.specs.Tables.{HostWalk, all_walked, next_round, views_after, are_settled, budget_of}
use Rattle.pb_language.specs.Verdict.{first_offence, settled_verdict, offence_verdict, walked_verdict, found_laters}
use Rattle.pb_walks.specs.Agree.{ViewsAgree, AllHostsAgree}
use Rattle.pb_walks.specs.Laws.{RoundsSettle, VerdictIsWalked}
use Rattle.pb_walks.proofs.Agreeing.{views_own, views_through, laters_own}
use Rattle.pb_walks.proofs.SameWalks.{all_walked_agree}
use Rattle.pb_walks.proofs.SameOffence.{same_offence}
use Rattle.pb_walks.proofs.SameBudget.{same_budget}
use Rattle.pb_walks.proofs.SameWrites.{same_settled, next_views_agree}

module _ (inventory : Inventory) (ps : Program) (ls : List (List Later)) where
  round_agrees : (vs us : List View) → ViewsAgree vs us → ViewsAgree (next_round inventory ps ls vs) (next_round inventory ps ls us)
  round_agrees vs us v = next_views_agree (all_walked inventory ps vs ls) (all_walked inventory ps us ls) vs us (all_walked_agree inventory ps vs us ls ls v (laters_own ls)) v

  here : (m n : ℕ) → ViewsAgree (views_after m inventory ps ls) (views_after (suc m) inventory ps ls) → m ≡ n → ViewsAgree (views_after m inventory ps ls) (views_after n inventory ps ls)
  here m n v e = subst (λ k. ViewsAgree (views_after m inventory ps ls) (views_after k inventory ps ls)) e (views_own (views_after m inventory ps ls) v.well)

  settles : (m n : ℕ) → ViewsAgree (views_after m inventory ps ls) (views_after (suc m) inventory ps ls) → m ≤ n → ViewsAgree (views_after m inventory ps ls) (views_after n inventory ps ls)
  settles m zero v h = here m zero v (grind arith)
  settles m (suc n) v h = later (cases_eq m (suc n)) (λ i. settles m n v i) where
    later : (m ≡ suc n) ⊎ (m ≡ suc n → ⊥) → (m ≤ n → ViewsAgree (views_after m inventory ps ls) (views_after n inventory ps ls)) → ViewsAgree (views_after m inventory ps ls) (views_after (suc n) inventory ps ls)
    later (inl e) f = here m (suc n) v e
    later (inr e) f =
        views_through (views_after m inventory ps ls) (views_after (suc m) inventory ps ls) (views_after (suc n) inventory ps ls) v
        (round_agrees (views_after m inventory ps ls) (views_after n inventory ps ls) (f (omega arith)))

pub rounds_settle : RoundsSettle
rounds_settle inventory ps ls m n v h = settles inventory ps ls m n v h

-- walks that agree have one verdict under views that agree
same_verdict : (ws xs : List HostWalk) (vs us : List View) → AllHostsAgree ws xs → ViewsAgree vs us → walked_verdict vs ws ≡ walked_verdict us xs
same_verdict ws xs vs us a v =
    ap (λ o. offence_verdict o (settled_verdict (are_settled ws vs) (budget_of ws))) (same_offence ws xs a)
    ∙ ap (λ q. offence_verdict (first_offence xs) (settled_verdict q (budget_of ws))) (same_settled ws xs vs us a v)
    ∙ ap (λ n. offence_verdict (first_offence xs) (settled_verdict (are_settled xs us) n)) (same_budget ws xs a)

pub verdict_is_walked : VerdictIsWalked
verdict_is_walked inventory ps vs ws v a =
    let ls = found_laters ps inventory in
    let us = views_after 4 inventory ps ls in
    same_verdict ws (all_walked inventory ps vs ls) vs vs a (views_own vs v.well) ∙ same_verdict (all_walked inventory ps vs ls) (all_walked inventory ps us ls) vs us (all_walked_agree inventory ps vs us ls ls v (laters_own ls)) v
