use Rattle.std.proofs.Common.{◌≡◌, ◌+◌, ◌++◌, ◌∙◌, ap, sym, subst, rules, arith}
use Rattle.std.specs.Prelude.{IfSome, option_to_list, sum_by}
use Rattle.std.proofs.lemmas.List.Elements.{All-pop}
use Rattle.std.proofs.lemmas.List.Sums.{sum_by_push}
use Rattle.std.proofs.Crossing as own
use Rattle.std.proofs.sync.Mutex.TheSendSync as mutex
use Rattle.std.proofs.sync.ledger.Book.TheSendSync as book
use Rattle.std.proofs.sync.ledger.Share.TheSendSync as share
use denote.Param.Send.{sendable}
use Rattle.pb_crossing.proofs.RunsCross as runs
use Rattle.pb_pool.specs.Pools.{CanCount, MayAnswer, Totals}
use Rattle.pb_pool.proofs.threads.start_all.Goals as goal

pub spawn_with-requires-send-F : goal.spawn_with-requires-send-F
spawn_with-requires-send-F g c κs within =
    let calls = c.type_bounds.send-C in
    let gives = c.type_bounds.send-G in
    let rule = c.type_bounds.send-P in
    let runner = c.type_bounds.send-W in
    let shared = c.type_bounds.sync-C in
    let also = c.type_bounds.sync-G in
    let promised = c.type_bounds.sync-P in
    let runtime = c.type_bounds.sync-R in
    search (runs.crosses, mutex.the_sync, book.the_send, share.the_send, own.crosses, sendable) depth 40

pub spawn_with-requires-clause-runs : goal.spawn_with-requires-clause-runs
spawn_with-requires-clause-runs g c κs within =
    let l = c.loop-worker in
    let calls = g.W.Runner.calls in
    let may = MayAnswer g.W.Runner.answers g.W.Runner.short g.P.Rule.of g.P.Rule.told in
    let counted = ap (λ (s : Totals). s.made) c.crew.view_is in
    let left = c.pop.new.self.items in
    let split = All-pop (λ w. may w.runner) l.workers.items left c.pop.result c.pop.ensures.items l.invariant.told in
    let popped = ap (sum_by (λ w. calls w.runner)) c.pop.ensures.items ∙ ap (λ o. sum_by (λ w. calls w.runner) (left ++ option_to_list o)) c.in-Some.is ∙ sum_by_push (λ w. calls w.runner) left c.in-Some.worker in (
      subst (λ o. IfSome o (λ w. may w.runner)) c.in-Some.is split.1,
      λ opened r ruled. let room = c.crew.invariant.3 opened r ruled in omega (arith, l.invariant.made, counted, popped, room),
    )

pub part-requires : goal.part-requires
part-requires g c κs within =
    let l = c.loop-worker in
    let calls = g.W.Runner.calls in
    let may = MayAnswer g.W.Runner.answers g.W.Runner.short g.P.Rule.of g.P.Rule.told in
    let counted = ap (λ (s : Totals). s.made) c.crew.view_is in
    let left = c.pop.new.self.items in
    let split = All-pop (λ w. may w.runner) l.workers.items left c.pop.result c.pop.ensures.items l.invariant.told in
    let popped = ap (sum_by (λ w. calls w.runner)) c.pop.ensures.items ∙ ap (λ o. sum_by (λ w. calls w.runner) (left ++ option_to_list o)) c.in-Some.is ∙ sum_by_push (λ w. calls w.runner) left c.in-Some.worker in
    let told = subst (λ o. IfSome o (λ w. may w.runner)) c.in-Some.is split.1 in
    let same : c.in-Err.refused.value.2 ≡ c.in-Some.worker = ap (λ f. f.2) c.in-Err.ensures.err in (
      search rules,
      (search rules, (search rules, (search rules, (search rules, subst (λ w. may w.runner × CanCount g.P.Rule.of (calls w.runner)) (sym same) (told, λ opened r ruled. let room = c.crew.invariant.3 opened r ruled in omega (arith, l.invariant.made, counted, popped, room)))))),
    )

pub loop-worker-preserved : goal.loop-worker-preserved
loop-worker-preserved g c =
    let l = c.loop-worker in
    let calls = g.W.Runner.calls in
    let may = MayAnswer g.W.Runner.answers g.W.Runner.short g.P.Rule.of g.P.Rule.told in
    let worker = c.in-Some.worker in
    let left = c.pop.new.self.items in
    let told = All-pop (λ w. may w.runner) l.workers.items left c.pop.result c.pop.ensures.items l.invariant.told in
    let popped-made : sum_by (λ w. calls w.runner) l.workers.items ≡ sum_by (λ w. calls w.runner) left + calls worker.runner =
    ap (sum_by (λ w. calls w.runner)) c.pop.ensures.items ∙ ap (λ o. sum_by (λ w. calls w.runner) (left ++ option_to_list o)) c.in-Some.is ∙ sum_by_push (λ w. calls w.runner) left worker in
    let popped-handed : sum_by (λ w. w.seat.handed) l.workers.items ≡ sum_by (λ w. w.seat.handed) left + worker.seat.handed =
    ap (sum_by (λ w. w.seat.handed)) c.pop.ensures.items ∙ ap (λ o. sum_by (λ w. w.seat.handed) (left ++ option_to_list o)) c.in-Some.is ∙ sum_by_push (λ w. w.seat.handed) left worker in
    let pushed-made = ap (sum_by (λ t. calls t.promise.worker.value.runner)) c.push_reserved.ensures.items ∙ sum_by_push (λ t. calls t.promise.worker.value.runner) l.threads.items c.in-Ok.thread in
    let pushed-handed = ap (sum_by (λ t. t.promise.worker.value.seat.handed)) c.push_reserved.ensures.items ∙ sum_by_push (λ t. t.promise.worker.value.seat.handed) l.threads.items c.in-Ok.thread in
    let made = ap (λ p. calls p.worker.value.runner) c.in-Ok.ensures.ok ∙ ap (λ w. calls w.runner) c.of.ensures in
    let handed = ap (λ p. p.worker.value.seat.handed) c.in-Ok.ensures.ok ∙ ap (λ w. w.seat.handed) c.of.ensures in record {
      all = search rules;
      room = search rules;
      told = told.0;
      made = omega (arith, l.invariant.made, popped-made, pushed-made, made);
      handed = omega (arith, l.invariant.handed, popped-handed, pushed-handed, handed);
    }
