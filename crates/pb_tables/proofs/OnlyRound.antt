-- What one round comes to, where no text reads another host.
use Rattle.std.proofs.Common.{◌≡◌, ◌∙◌, List, false, true, option_map, ap, subst}
use Rattle.pb_language.specs.Program.{Inventory, Program}
use Rattle.pb_language.specs.Scope.{Later, View}
use Rattle.pb_language.specs.Tables.{all_walked, known_views, views_after}
use Rattle.pb_language.specs.Verdict.{first_offence, flow_verdict, found_laters, offence_verdict, settled_verdict}
use Rattle.pb_language.specs.Theorem.{are_distinct, host_names}
use Rattle.pb_walks.specs.Agree.{ViewsAgree}
use Rattle.pb_walks.specs.Alone.{OneRoundIsEnough, plays_read_others}
use Rattle.pb_walks.proofs.NamedWalks.{agreeing_name_handlers}
use Rattle.pb_hosts.specs.Shown.{views_view}
use Rattle.pb_tables.specs.Outcomes.{AlwaysNamesHandlers, host_offence}
use Rattle.pb_tables.specs.Rounds.{IsRound}
use Rattle.pb_tables.specs.declared.round.Round.{Round}

module _ (enough : OneRoundIsEnough) (i : Inventory) (ps : Program) (vs : List View) (ls : List (List Later)) (r : Round) (known : vs ≡ known_views i.hosts) (distinct : are_distinct (host_names i.hosts) ≡ true)
    (alone : plays_read_others ps ≡ false) (is : IsRound i ps vs ls r) where
  known_round : IsRound i ps (known_views i.hosts) ls r
  known_round = subst (λ (us : List View). IsRound i ps us ls r) known is

  pub only_views : ViewsAgree (views_view r.next) (views_after 4 i ps (found_laters ps i))
  only_views = (enough i ps ls known_round.walks (views_view r.next) distinct alone known_round.agrees known_round.next).0

  pub only_verdict : AlwaysNamesHandlers i ps → offence_verdict (option_map host_offence r.fault) (settled_verdict true r.calls) ≡ flow_verdict ps i
  only_verdict always =
      let ws = known_round.walks in
      let named = agreeing_name_handlers ws (all_walked i ps (known_views i.hosts) ls) known_round.agrees (always (known_views i.hosts) ls) in
      ap (λ o. offence_verdict o (settled_verdict true r.calls)) (known_round.fault named) ∙ ap (λ n. offence_verdict (first_offence ws) (settled_verdict true n)) known_round.calls
      ∙ (enough i ps ls ws (views_view r.next) distinct alone known_round.agrees known_round.next).1
