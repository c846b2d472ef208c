-- A round that changes no variable that a text reads of another host.
use Rattle.std.proofs.Common.{◌≡◌, ◌∙◌, ◌≤◌, ℕ, List, false, true, option_map, ap}
use Rattle.pb_language.specs.Expression.{Name}
use Rattle.pb_language.specs.Program.{Inventory, Program}
use Rattle.pb_language.specs.Scope.{Later, View}
use Rattle.pb_language.specs.Tables.{HostWalk, all_walked, budget_of, next_views, views_after}
use Rattle.pb_language.specs.Theorem.{are_distinct, host_names}
use Rattle.pb_language.specs.Verdict.{first_offence, flow_verdict, found_laters, offence_verdict, settled_verdict}
use Rattle.pb_walks.specs.Agree.{AllHostsAgree, LatersAgree, ViewsAgree}
use Rattle.pb_walks.proofs.Agreeing.{laters_own, views_own, views_through}
use Rattle.pb_walks.proofs.NamedWalks.{agreeing_name_handlers}
use Rattle.pb_walks.proofs.SameBudget.{same_budget}
use Rattle.pb_walks.proofs.SameOffence.{same_offence}
use Rattle.pb_walks.proofs.SameWalks.{all_walked_agree}
use Rattle.pb_walks.proofs.SameWrites.{next_views_agree}
use Rattle.pb_others.specs.Laws.{ReadRoundIsLast}
use Rattle.pb_others.specs.Others.{DifferIn, plays_read_theirs}
use Rattle.pb_hosts.specs.Shown.{views_view}
use Rattle.pb_tables.specs.Outcomes.{AlwaysNamesHandlers, host_offence}
use Rattle.pb_tables.specs.Rounds.{IsRound}
use Rattle.pb_tables.specs.declared.round.Round.{Round}

module _ (last : ReadRoundIsLast) (i : Inventory) (ps : Program) (vs : List View) (ls : List (List Later)) (r : Round) (n : ℕ) (ns : List Name) (distinct : are_distinct (host_names i.hosts) ≡ true)
    (reads : plays_read_theirs ns ps ≡ false) (few : n ≤ 3) (reached : ViewsAgree vs (views_after n i ps (found_laters ps i))) (later : LatersAgree ls (found_laters ps i)) (is : IsRound i ps vs ls r)
    (differ : DifferIn ns vs (views_view r.next)) where
  abbrev found : List (List Later)
  found = found_laters ps i

  abbrev here : List HostWalk
  here = all_walked i ps vs ls

  abbrev there : List HostWalk
  there = all_walked i ps vs found

  own : ViewsAgree vs vs
  own = views_own vs reached.well

  same_walks : AllHostsAgree here there
  same_walks = all_walked_agree i ps vs vs ls found own later

  next : ViewsAgree (views_view r.next) (next_views there vs)
  next =
      views_through (views_view r.next) (next_views is.walks vs) (next_views there vs) is.next
      (views_through (next_views is.walks vs) (next_views here vs) (next_views there vs) (next_views_agree is.walks here vs vs is.agrees own) (next_views_agree here there vs vs same_walks own))

  told : ViewsAgree (views_view r.next) (views_after 4 i ps found) × (offence_verdict (first_offence there) (settled_verdict true (budget_of there)) ≡ flow_verdict ps i)
  told = last i ps ns n vs (views_view r.next) there distinct reads few reached (all_walked_agree i ps vs vs found found own (laters_own found)) next differ

  pub read_views : ViewsAgree (views_view r.next) (views_after 4 i ps found)
  read_views = told.0

  pub read_verdict : AlwaysNamesHandlers i ps → offence_verdict (option_map host_offence r.fault) (settled_verdict true r.calls) ≡ flow_verdict ps i
  read_verdict always =
      let named = agreeing_name_handlers is.walks here is.agrees (always vs ls) in
      ap (λ o. offence_verdict o (settled_verdict true r.calls)) (is.fault named ∙ same_offence is.walks here is.agrees ∙ same_offence here there same_walks)
      ∙ ap (λ k. offence_verdict (first_offence there) (settled_verdict true k)) (is.calls ∙ same_budget is.walks here is.agrees ∙ same_budget here there same_walks) ∙ told.1
