use Rattle.std.proofs.Common.{◌≡◌, ◌∙◌, ◌≤◌, ap, arith, subst, sym}
use Rattle.pb_language.specs.Tables.{views_after}
use Rattle.pb_language.specs.Verdict.{found_laters}
use Rattle.pb_inventory.specs.Inventory.{inventory_view}
use Rattle.pb_walks.specs.Agree.{ViewsAgree}
use Rattle.pb_hosts.specs.Shown.{views_view}
use Rattle.pb_hosts.specs.declared.views.Views.{Views}
use Rattle.pb_hosts.proofs.Distinct.{distinct_hosts}
use Rattle.pb_tables.specs.Tabled.{laters_in}
use Rattle.pb_tables.proofs.LastRead.{read_verdict, read_views}
use Rattle.pb_tables.proofs.Settling.{after_all, after_round, after_same, same_tables, verdict_of_last, views_of_last}
use Rattle.pb_tables.proofs.Standing.{none_shared}
use Rattle.pb_tables.proofs.outcome.last_round.Goals as goal

pub loop-round-preserved : goal.loop-round-preserved
loop-round-preserved c =
    let l = c.loop-round in
    let stage = c.args.stage.now in
    let r = c.in_ok-round.round in
    let after = c.tables_after-tables in
    let kept = ap (λ v. v.inventory) after.ensures.views ∙ c.in_ok-round.ensures.inventory in
    record {
      names = c.in_ok-round.ensures.names ∙ l.invariant.names;
      inventory = kept;
      tables = same_tables stage l.tables after.result l.invariant.tables (ap (λ b. b.now) kept) after.ensures.laters;
      all = λ ps scenes. after_round stage l.tables ps l._round r (l.invariant.all ps scenes) (c.in_ok-round.ensures.round ps scenes (none_shared _ ps _ _)) after.result after.ensures.views after.ensures.laters;
    }

pub returns-then-round-clause-verdict : goal.returns-then-round-clause-verdict
returns-then-round-clause-verdict c =
    let l = c.loop-round in
    let stage = c.args.stage.now in
    let r = c.in_ok-round.round in
    let few : l._round ≤ 4 = omega (arith, c.loop-round-test.true) in
    λ ps scenes always reads.
    let a = l.invariant.all ps scenes in
    let is = c.in_ok-round.ensures.round ps scenes (none_shared _ ps _ _) in
    verdict_of_last stage l.tables ps l._round r a is (after_same stage l.tables ps l._round r a is c.if-round.true few) c.outcome_in.result always c.outcome_in.ensures.verdict

pub returns-then-round-clause-views : goal.returns-then-round-clause-views
returns-then-round-clause-views c =
    let l = c.loop-round in
    let stage = c.args.stage.now in
    let r = c.in_ok-round.round in
    let few : l._round ≤ 4 = omega (arith, c.loop-round-test.true) in
    λ ps scenes reads.
    let a = l.invariant.all ps scenes in
    let is = c.in_ok-round.ensures.round ps scenes (none_shared _ ps _ _) in
    views_of_last stage l.tables ps l._round r a is (after_same stage l.tables ps l._round r a is c.if-round.true few) c.outcome_in.result c.outcome_in.ensures.views

pub returns-then-not-branch-clause-verdict : goal.returns-then-not-branch-clause-verdict
returns-then-not-branch-clause-verdict c =
    let l = c.loop-round in
    let stage = c.args.stage.now in
    let i = stage.inventory.now in
    let r = c.in_ok-round.round in
    let few : l._round ≤ 3 = omega (arith, c.loop-round-test.true) in
    let unread = c.in_ok-reads_changed.ensures c.if-not-branch.true in
    λ ps scenes always reads.
    let a = l.invariant.all ps scenes in
    c.outcome_after.ensures.verdict
    ∙ read_verdict c.read_round_is_last.ensures (inventory_view i) ps (views_view l.tables.views) (laters_in stage l.tables.laters.items) r l._round unread.0 (distinct_hosts i) (reads unread.0 unread.1) few a.views a.laters
    (c.in_ok-round.ensures.round ps scenes (none_shared _ ps _ _)) unread.2 always

pub returns-then-not-branch-clause-views : goal.returns-then-not-branch-clause-views
returns-then-not-branch-clause-views c =
    let l = c.loop-round in
    let stage = c.args.stage.now in
    let i = stage.inventory.now in
    let r = c.in_ok-round.round in
    let few : l._round ≤ 3 = omega (arith, c.loop-round-test.true) in
    let unread = c.in_ok-reads_changed.ensures c.if-not-branch.true in
    λ ps scenes reads.
    let a = l.invariant.all ps scenes in
    subst (λ (v : Views). ViewsAgree (views_view v) (views_after 4 (inventory_view i) ps (found_laters ps (inventory_view i)))) (sym c.outcome_after.ensures.views)
    (read_views c.read_round_is_last.ensures (inventory_view i) ps (views_view l.tables.views) (laters_in stage l.tables.laters.items) r l._round unread.0 (distinct_hosts i) (reads unread.0 unread.1) few a.views a.laters
    (c.in_ok-round.ensures.round ps scenes (none_shared _ ps _ _)) unread.2)

pub returns-clause-verdict : goal.returns-clause-verdict
returns-clause-verdict c =
    let l = c.loop-round in
    let stage = c.args.stage.now in
    let r = c.in_ok-round-2.round in
    let all : l._round ≡ 4 = omega (arith, c.loop-round-test.false, l.auto._round-end) in
    λ ps scenes always reads.
    let a = l.invariant.all ps scenes in
    let is = c.in_ok-round-2.ensures.round ps scenes (none_shared _ ps _ _) in
    verdict_of_last stage l.tables ps l._round r a is (after_all stage l.tables ps l._round r a is all) c.outcome_in-2.result always c.outcome_in-2.ensures.verdict

pub returns-clause-views : goal.returns-clause-views
returns-clause-views c =
    let l = c.loop-round in
    let stage = c.args.stage.now in
    let r = c.in_ok-round-2.round in
    let all : l._round ≡ 4 = omega (arith, c.loop-round-test.false, l.auto._round-end) in
    λ ps scenes reads.
    let a = l.invariant.all ps scenes in
    let is = c.in_ok-round-2.ensures.round ps scenes (none_shared _ ps _ _) in
    views_of_last stage l.tables ps l._round r a is (after_all stage l.tables ps l._round r a is all) c.outcome_in-2.result c.outcome_in-2.ensures.views
