-- A round where no variable changes that a text reads of another host is the last.
use Rattle.std.proofs.Common.{◌≡◌, ◌≤◌, ◌∙◌, ℕ, suc, List, Bool, true, false, sym, ap, subst, arith}
use Rattle.pb_language.specs.Expression.{Name, Root}
use Rattle.pb_language.specs.Scope.{Later, View}
use Rattle.pb_language.specs.Program.{Inventory, Program}
use Rattle.pb_language.specs.Tables.{HostWalk, all_walked, are_settled, budget_of, next_views, views_after}
use Rattle.pb_language.specs.Theorem.{are_distinct, host_names}
use Rattle.pb_language.specs.Verdict.{first_offence, found_laters, offence_verdict, settled_verdict}
use Rattle.pb_walks.specs.Agree.{AllHostsAgree, ViewsAgree}
use Rattle.pb_walks.proofs.Agreeing.{laters_own, views_own, views_through}
use Rattle.pb_walks.proofs.AloneWalks.{AreAlike}
use Rattle.pb_walks.proofs.SameWalks.{all_walked_agree}
use Rattle.pb_walks.proofs.SameOffence.{same_offence}
use Rattle.pb_walks.proofs.SameBudget.{same_budget}
use Rattle.pb_walks.proofs.SameWrites.{same_settled, next_views_agree}
use Rattle.pb_walks.proofs.SettledViews.{next_again, next_settled}
use Rattle.pb_walks.proofs.Settles.{rounds_settle}
use Rattle.pb_others.specs.Rooted.{plays_have_root}
use Rattle.pb_others.specs.Others.{DifferIn, is_theirs}
use Rattle.pb_others.specs.Laws.{ReadRoundIsLast}
use Rattle.pb_others.proofs.ThereSpots.{SameBut}
use Rattle.pb_others.proofs.ThereWalks.{there_walks}

-- of what is one of these nothing is said
same_but : (ns : List Name) (vs us : List View) → DifferIn ns vs us → SameBut (is_theirs ns) us vs
same_but ns vs us s = record { hosts = λ g. sym (s.hosts g); slots = λ t x n g. sym (s.slots g x n) }

views_back : (vs us : List View) → ViewsAgree vs us → ViewsAgree us vs
views_back vs us a = record { hosts = λ g. sym (a.hosts g); slots = λ g. ((a.slots g).1, (a.slots g).0); well = a.well_too; well_too = a.well }

module _ (inventory : Inventory) (ps : Program) where
  abbrev found : List (List Later)
  found = found_laters ps inventory

  -- the walks under a table
  abbrev walks : List View → List HostWalk
  walks vs = all_walked inventory ps vs found

  abbrev fourth : List View
  fourth = views_after 4 inventory ps found

  walks_agree : (vs us : List View) → ViewsAgree vs us → AllHostsAgree (walks vs) (walks us)
  walks_agree vs us a = all_walked_agree inventory ps vs us found found a (laters_own found)

  rounds_agree : (vs us : List View) → ViewsAgree vs us → ViewsAgree (next_views (walks vs) vs) (next_views (walks us) us)
  rounds_agree vs us a = next_views_agree (walks vs) (walks us) vs us (walks_agree vs us a) a

  module _ (q : Root → Bool) (n : ℕ) (vs us : List View) (ws : List HostWalk) (distinct : are_distinct (host_names inventory.hosts) ≡ true) (reads : plays_have_root q ps ≡ false) (few : n ≤ 3)
      (reached : ViewsAgree vs (views_after n inventory ps found)) (agrees : AllHostsAgree ws (walks vs)) (next : ViewsAgree us (next_views ws vs)) (same : SameBut q us vs) where
    alike : AreAlike (walks vs) (walks us)
    alike = there_walks q inventory ps vs us found reads same

    own : AllHostsAgree (walks vs) (walks vs)
    own = walks_agree vs vs (views_own vs reached.well)

    after : ViewsAgree us (next_views (walks vs) vs)
    after = views_through us (next_views ws vs) (next_views (walks vs) vs) next (next_views_agree ws (walks vs) vs vs agrees (views_own vs reached.well))

    -- the next round writes what this one did
    stays : ViewsAgree us (next_views (walks us) us)
    stays =
        let there = next_views (walks vs) vs in
        let again = next_again inventory ps vs vs found reached.well reached.well in
        subst (λ ts. ViewsAgree us ts) (alike.next us)
        (views_through us there (next_views (walks vs) us) after
        (views_through there (next_views (walks vs) there) (next_views (walks vs) us) again (views_back (next_views (walks vs) us) (next_views (walks vs) there) (next_views_agree (walks vs) (walks vs) us there own after))))

    counted : ViewsAgree us (views_after (suc n) inventory ps found)
    counted = views_through us (next_views (walks vs) vs) (views_after (suc n) inventory ps found) after (rounds_agree vs (views_after n inventory ps found) reached)

    pub seen_fourth : ViewsAgree us fourth
    seen_fourth =
        let ts = views_after (suc n) inventory ps found in
        let more = views_after (suc (suc n)) inventory ps found in
        let settles = views_through ts us more (views_back us ts counted) (views_through us (next_views (walks us) us) more stays (rounds_agree us ts counted)) in
        views_through us ts fourth counted (rounds_settle inventory ps found (suc n) 4 settles (omega (arith, few)))

    -- the kinds are settled
    settled : are_settled (walks fourth) fourth ≡ true
    settled =
        sym (same_settled (walks us) (walks fourth) us fourth (walks_agree us fourth seen_fourth) seen_fourth) ∙ sym (alike.settled us)
        ∙ same_settled (walks vs) (walks vs) us (next_views (walks vs) vs) own after ∙ next_settled inventory ps vs vs found distinct reached.well reached.well

    offence : first_offence ws ≡ first_offence (walks fourth)
    offence = same_offence ws (walks vs) agrees ∙ alike.offence ∙ same_offence (walks us) (walks fourth) (walks_agree us fourth seen_fourth)

    calls : budget_of ws ≡ budget_of (walks fourth)
    calls = same_budget ws (walks vs) agrees ∙ alike.budget ∙ same_budget (walks us) (walks fourth) (walks_agree us fourth seen_fourth)

    pub verdict : offence_verdict (first_offence ws) (settled_verdict true (budget_of ws)) ≡ offence_verdict (first_offence (walks fourth)) (settled_verdict (are_settled (walks fourth) fourth) (budget_of (walks fourth)))
    verdict =
        ap (λ o. offence_verdict o (settled_verdict true (budget_of ws))) offence ∙ ap (λ k. offence_verdict (first_offence (walks fourth)) (settled_verdict true k)) calls
        ∙ ap (λ z. offence_verdict (first_offence (walks fourth)) (settled_verdict z (budget_of (walks fourth)))) (sym settled)

pub read_round : ReadRoundIsLast
read_round inventory ps ns n vs us ws distinct reads few reached agrees next same =
    (seen_fourth inventory ps (is_theirs ns) n vs us ws distinct reads few reached agrees next (same_but ns vs us same), verdict inventory ps (is_theirs ns) n vs us ws distinct reads few reached agrees next (same_but ns vs us same))
