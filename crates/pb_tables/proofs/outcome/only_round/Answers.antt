use Rattle.std.proofs.Common.{sym, subst, ◌∙◌}
use Rattle.pb_language.specs.Tables.{views_after}
use Rattle.pb_language.specs.Verdict.{found_laters}
use Rattle.pb_inventory.specs.Inventory.{inventory_view}
use Rattle.pb_walks.specs.Agree.{ViewsAgree}
use Rattle.pb_hosts.specs.Shown.{views_view}
use Rattle.pb_hosts.specs.declared.views.Views.{Views}
use Rattle.pb_hosts.proofs.Distinct.{distinct_hosts}
use Rattle.pb_tables.specs.Ends.{AreShared}
use Rattle.pb_tables.specs.Tabled.{laters_in}
use Rattle.pb_tables.proofs.OnlyRound.{only_verdict, only_views}
use Rattle.pb_tables.proofs.outcome.only_round.Goals as goal

pub returns-clause-verdict : goal.returns-clause-verdict
returns-clause-verdict c =
    let stage = c.args.stage.now in
    let i = stage.inventory.now in
    λ ps scenes always alone shared.
    c.outcome_after.ensures.verdict ∙ only_verdict c.one_round_is_enough.ensures (inventory_view i) ps (views_view c.args.views) _ c.in_ok-round.round c.requires.views (distinct_hosts i) alone
    (c.in_ok-round.ensures.round ps scenes (subst (λ os. AreShared (inventory_view i) ps (views_view c.args.views) (laters_in stage os) c.args.firsts.now) (sym c.new-laters.ensures.items) shared)) always

pub returns-clause-views : goal.returns-clause-views
returns-clause-views c =
    let stage = c.args.stage.now in
    let i = stage.inventory.now in
    λ ps scenes alone shared.
    subst (λ (v : Views). ViewsAgree (views_view v) (views_after 4 (inventory_view i) ps (found_laters ps (inventory_view i)))) (sym c.outcome_after.ensures.views)
    (only_views c.one_round_is_enough.ensures (inventory_view i) ps (views_view c.args.views) _ c.in_ok-round.round c.requires.views (distinct_hosts i) alone
    (c.in_ok-round.ensures.round ps scenes (subst (λ os. AreShared (inventory_view i) ps (views_view c.args.views) (laters_in stage os) c.args.firsts.now) (sym c.new-laters.ensures.items) shared)))
