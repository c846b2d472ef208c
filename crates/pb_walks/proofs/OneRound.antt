-- Where no text reads another host, one round of the tables is enough.
use Rattle.std.proofs.Common.{◌≡◌, ◌∙◌, List, true, false, sym, ap, subst, arith}
use Rattle.pb_language.specs.Scope.{Later, View}
use Rattle.pb_language.specs.Program.{Inventory, Program}
use Rattle.pb_language.specs.Tables.{HostWalk, all_walked, are_settled, budget_of, known_views, next_views, views_after}
use Rattle.pb_language.specs.Theorem.{are_distinct, host_names}
use Rattle.pb_language.specs.Verdict.{first_offence, found_laters, offence_verdict, settled_verdict}
use Rattle.pb_language.specs.Wells.{WellViews}
use Rattle.pb_walks.specs.Agree.{AllHostsAgree, ViewsAgree}
use Rattle.pb_walks.specs.Alone.{plays_read_others, OneRoundIsEnough}
use Rattle.pb_walks.proofs.Agreeing.{laters_own, views_through}
use Rattle.pb_walks.proofs.AloneWalks.{AreAlike, alone_walks}
use Rattle.pb_walks.proofs.SameWalks.{all_walked_agree, known_views_agree}
use Rattle.pb_walks.proofs.SameOffence.{same_offence}
use Rattle.pb_walks.proofs.SameBudget.{same_budget}
use Rattle.pb_walks.proofs.SameWrites.{same_settled, next_views_agree}
use Rattle.pb_walks.proofs.SettledViews.{next_again, next_settled}
use Rattle.pb_walks.proofs.Settles.{rounds_settle}

module _ (inventory : Inventory) (ps : Program) (ls : List (List Later)) (distinct : are_distinct (host_names inventory.hosts) ≡ true) (alone : plays_read_others ps ≡ false) where
  abbrev known : List View
  known = known_views inventory.hosts

  abbrev found : List (List Later)
  found = found_laters ps inventory

  abbrev round : List HostWalk
  round = all_walked inventory ps known ls

  -- the tables after so many rounds
  abbrev first : List View
  first = views_after 1 inventory ps found

  abbrev fourth : List View
  fourth = views_after 4 inventory ps found

  known_well : WellViews known
  known_well = (known_views_agree inventory).well

  -- walks under other tables come to what this round's come to
  alike : (us : List View) → AreAlike (all_walked inventory ps us found) round
  alike us = alone_walks inventory ps us known found ls alone

  after_first : first ≡ next_views round known
  after_first = (alike known).next known

  after_second : ViewsAgree first (views_after 2 inventory ps found)
  after_second =
      subst (λ us. ViewsAgree first us) (sym ((alike first).next first))
      (subst (λ us. ViewsAgree us (next_views round us)) (sym after_first) (next_again inventory ps known known ls known_well known_well))

  after_fourth : ViewsAgree first fourth
  after_fourth = rounds_settle inventory ps found 1 4 after_second (omega arith)

  module _ (ws : List HostWalk) (vs : List View) (agrees : AllHostsAgree ws round) (next : ViewsAgree vs (next_views ws known)) where
    seen_first : ViewsAgree vs first
    seen_first =
        subst (λ us. ViewsAgree vs us) (sym after_first)
        (views_through vs (next_views ws known) (next_views round known) next (next_views_agree ws round known known agrees (known_views_agree inventory)))

    pub seen_fourth : ViewsAgree vs fourth
    seen_fourth = views_through vs first fourth seen_first after_fourth

    -- the kinds are settled
    settled : are_settled (all_walked inventory ps fourth found) fourth ≡ true
    settled =
        (alike fourth).settled fourth
        ∙ sym (same_settled round round first fourth (all_walked_agree inventory ps known known ls ls (known_views_agree inventory) (laters_own ls)) after_fourth)
        ∙ ap (are_settled round) after_first ∙ next_settled inventory ps known known ls distinct known_well known_well

    offence : first_offence ws ≡ first_offence (all_walked inventory ps fourth found)
    offence = same_offence ws round agrees ∙ sym (alike fourth).offence

    calls : budget_of ws ≡ budget_of (all_walked inventory ps fourth found)
    calls = same_budget ws round agrees ∙ sym (alike fourth).budget

    pub verdict : offence_verdict (first_offence ws) (settled_verdict true (budget_of ws))
        ≡ offence_verdict (first_offence (all_walked inventory ps fourth found)) (settled_verdict (are_settled (all_walked inventory ps fourth found) fourth) (budget_of (all_walked inventory ps fourth found)))
    verdict =
        ap (λ o. offence_verdict o (settled_verdict true (budget_of ws))) offence
        ∙ ap (λ n. offence_verdict (first_offence (all_walked inventory ps fourth found)) (settled_verdict true n)) calls
        ∙ ap (λ q. offence_verdict (first_offence (all_walked inventory ps fourth found)) (settled_verdict q (budget_of (all_walked inventory ps fourth found)))) (sym settled)

pub one_round : OneRoundIsEnough
one_round inventory ps ls ws vs distinct alone agrees next =
    (seen_fourth inventory ps ls distinct alone ws vs agrees next, verdict inventory ps ls distinct alone ws vs agrees next)
