-- What others see after a round, and the verdict of the last.
use Rattle.std.proofs.Common.{◌≡◌, ◌≤◌, ℕ, ◌+◌, List, length, true, Option, option_map, add-one, sym, subst, ◌∙◌, Vec, Global}
use Rattle.std.specs.List.{All}
use Rattle.std.specs.declared.sync.Arc.{Arc}
use Rattle.pb_language.specs.Program.{Inventory, Program}
use Rattle.pb_language.specs.Scope.{Later, View}
use Rattle.pb_language.specs.Tables.{views_after}
use Rattle.pb_language.specs.Verdict.{flow_verdict, found_laters, offence_verdict, settled_verdict}
use Rattle.pb_inventory.specs.Inventory.{inventory_view}
use Rattle.pb_walks.specs.Agree.{LatersAgree, ViewsAgree}
use Rattle.pb_hosts.specs.Shown.{views_view}
use Rattle.pb_hosts.specs.declared.lasting.Lasting.{Lasting}
use Rattle.pb_hosts.specs.declared.views.Views.{Views}
use Rattle.pb_tables.specs.Outcomes.{AlwaysNamesHandlers, host_offence, outcome_verdict}
use Rattle.pb_tables.specs.Rounds.{AreAfter, IsRound}
use Rattle.pb_tables.specs.Tabled.{AreBeside, AreTables, laters_in}
use Rattle.pb_tables.specs.declared.outcome.Outcome.{Outcome}
use Rattle.pb_tables.specs.declared.round.Round.{Round}
use Rattle.pb_tables.specs.declared.table.Stage.{Stage}
use Rattle.pb_tables.specs.declared.table.Tables.{Tables}
use Rattle.pb_tables.proofs.Chained.{round_more, round_same}
use Rattle.pb_tables.proofs.Rounded.{round_outcome}

abbrev PlayLaters : Type 0
PlayLaters = Vec (Option (Vec (Arc Lasting Global) Global)) Global

pub same_tables : (s : Stage) (t u : Tables) → AreTables s t → u.views.inventory.now ≡ s.inventory.now → u.laters ≡ t.laters → AreTables s u
same_tables s t u a at same = record { inventory = at; beside = subst (λ (v : PlayLaters). All (AreBeside (length s.names.now)) v.items) (sym same) a.beside }

module _ (s : Stage) (t : Tables) (ps : Program) (n : ℕ) (r : Round) (a : AreAfter n s t ps) (is : IsRound (inventory_view s.inventory.now) ps (views_view t.views) (laters_in s t.laters.items) r) where
  abbrev i : Inventory
  i = inventory_view s.inventory.now

  abbrev seen : List View
  seen = views_view t.views

  abbrev later : List (List Later)
  later = laters_in s t.laters.items

  abbrev found : List (List Later)
  found = found_laters ps i

  -- the tables of the next round
  pub after_round : (u : Tables) → u.views ≡ r.next → u.laters ≡ t.laters → AreAfter (n + 1) s u ps
  after_round u views laters = record {
    views = subst (λ (v : Views). ViewsAgree (views_view v) (views_after (n + 1) i ps found)) (sym views)
        (subst (λ k. ViewsAgree (views_view r.next) (views_after k i ps found)) (sym (add-one n)) (round_more i ps seen later n a.views a.laters is.walks is.agrees (views_view r.next) is.next));
    laters = subst (λ (v : PlayLaters). LatersAgree (laters_in s v.items) found) (sym laters) a.laters;
  }

  -- a round that changes nothing is the last
  pub after_same : r.is_same ≡ true → n ≤ 4 → ViewsAgree seen (views_after 4 i ps found)
  after_same same le = round_same i ps seen later n a.views a.laters is.walks is.agrees (views_view r.next) is.next (is.same same) le

  pub after_all : n ≡ 4 → ViewsAgree seen (views_after 4 i ps found)
  after_all e = subst (λ k. ViewsAgree seen (views_after k i ps found)) e a.views

  -- the outcome of the last round
  module _ (last : ViewsAgree seen (views_after 4 i ps found)) (o : Outcome) where
    pub verdict_of_last : AlwaysNamesHandlers i ps → outcome_verdict o ≡ offence_verdict (option_map host_offence r.fault) (settled_verdict r.is_settled r.calls) → outcome_verdict o ≡ flow_verdict ps i
    verdict_of_last always e = e ∙ round_outcome i ps seen later r is always last a.laters

    pub views_of_last : o.views ≡ t.views → ViewsAgree (views_view o.views) (views_after 4 i ps found)
    views_of_last e = subst (λ (v : Views). ViewsAgree (views_view v) (views_after 4 i ps found)) (sym e) last
