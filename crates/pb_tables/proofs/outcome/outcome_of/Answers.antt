use Rattle.std.proofs.Common.{List, ◌∙◌, subst, sym}
use Rattle.std.proofs.lemmas.Result.{IfOk-weaker}
use Rattle.pb_language.specs.Scope.{View}
use Rattle.pb_language.specs.Tables.{known_views}
use Rattle.pb_walks.specs.Agree.{ViewsAgree}
use Rattle.pb_walks.proofs.SameWalks.{known_views_agree}
use Rattle.pb_inventory.specs.Inventory.{inventory_view}
use Rattle.pb_hosts.specs.Shown.{views_view}
use Rattle.pb_tables.specs.Outcomes.{ReadsNoMore}
use Rattle.pb_tables.proofs.Sharing.{Laws}
use Rattle.pb_tables.proofs.Standing.{standing_shared}
use Rattle.pb_tables.proofs.outcome.outcome_of.Goals as goal

laws : (c : goal.After-drop-names-2) → Laws
laws c = record {
  walked = c.hosts_walk_alike.ensures;
  calls = c.alike_walks_give_the_same.ensures.calls;
  offence = c.alike_walks_give_the_same.ensures.offence;
  writes = c.alike_walks_give_the_same.ensures.writes;
  settled = c.alike_walks_give_the_same.ensures.settled;
  handlers = c.alike_walks_give_the_same.ensures.handlers;
}

pub last_round-requires-clause-first : goal.last_round-requires-clause-first
last_round-requires-clause-first c = λ ps scenes.
    let i = inventory_view c.args.inventory.now in
    record {
      views = subst (λ (vs : List View). ViewsAgree vs (known_views i.hosts)) (sym (c.in_ok-views.ensures.views ∙ c.in_ok-known.ensures.views)) (known_views_agree i);
      laters = c.in_ok-laters-in-Others.ensures.laters ps scenes;
    }

pub returns-in-Others-clause-verdict : goal.returns-in-Others-clause-verdict
returns-in-Others-clause-verdict c = IfOk-weaker c.last_round.result _ _ (λ o told ps scenes always reads. told ps scenes always (subst (λ r. ReadsNoMore r ps) c.in-Others.is reads)) c.last_round.ensures.verdict

pub returns-in-Others-clause-views : goal.returns-in-Others-clause-views
returns-in-Others-clause-views c = IfOk-weaker c.last_round.result _ _ (λ o told ps scenes reads. told ps scenes (subst (λ r. ReadsNoMore r ps) c.in-Others.is reads)) c.last_round.ensures.views

pub returns-clause-verdict : goal.returns-clause-verdict
returns-clause-verdict c =
    IfOk-weaker c.only_round-in-Nameless.result _ _
    (λ o told ps scenes always reads.
    let both = subst (λ r. ReadsNoMore r ps) c.in-Nameless.is reads in
    told ps scenes always both.0
    (standing_shared (laws c) c.args.inventory.now ps c.in_ok-firsts-in-Nameless.firsts.items c.deref-in-Nameless.result.now (views_view c.in_ok-views.views) (c.in_ok-views.ensures.views ∙ c.in_ok-known.ensures.views) c.deref-in-Nameless.ensures.value both.0 both.1
    (c.in_ok-firsts-in-Nameless.ensures ps scenes)))
    c.only_round-in-Nameless.ensures.verdict

pub returns-clause-views : goal.returns-clause-views
returns-clause-views c =
    IfOk-weaker c.only_round-in-Nameless.result _ _
    (λ o told ps scenes reads.
    let both = subst (λ r. ReadsNoMore r ps) c.in-Nameless.is reads in
    told ps scenes both.0
    (standing_shared (laws c) c.args.inventory.now ps c.in_ok-firsts-in-Nameless.firsts.items c.deref-in-Nameless.result.now (views_view c.in_ok-views.views) (c.in_ok-views.ensures.views ∙ c.in_ok-known.ensures.views) c.deref-in-Nameless.ensures.value both.0 both.1
    (c.in_ok-firsts-in-Nameless.ensures ps scenes)))
    c.only_round-in-Nameless.ensures.views
