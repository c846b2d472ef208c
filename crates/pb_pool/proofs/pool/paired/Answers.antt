use Rattle.std.proofs.Common.{◌++◌, ◌∙◌, ap, sym, subst, rules, arith}
use Rattle.std.specs.Prelude.{All, IfSome, option_to_list, sum_by}
use Rattle.std.proofs.lemmas.List.Sums.{sum_by_push}
use Rattle.pb_pool.specs.Seats.{Counts, handed_sum}
use Rattle.std.proofs.lemmas.List.Elements.{All-pop, All-push}
use Rattle.pb_pool.specs.Pools.{MayAnswer}
use Rattle.pb_pool.proofs.pool.paired.Goals as goal

pub loop-seat-preserved : goal.loop-seat-preserved
loop-seat-preserved g c =
    let l = c.loop-seat in
    let may = MayAnswer g.W.Runner.answers g.W.Runner.short g.P.Rule.of g.P.Rule.told in
    let split = All-pop may l.runners.items c.pop-in-Some.new.self.items c.pop-in-Some.result c.pop-in-Some.ensures.items l.invariant.left in
    let seats = ap handed_sum c.pop.ensures.items ∙ ap (λ o. handed_sum (c.pop.new.self.items ++ option_to_list o)) c.in-Some.is ∙ sum_by_push (λ (s : Counts). s.handed) c.pop.new.self.items c.in-Some.seat in
    let runners = ap (sum_by g.W.Runner.calls) c.pop-in-Some.ensures.items ∙ ap (λ o. sum_by g.W.Runner.calls (c.pop-in-Some.new.self.items ++ option_to_list o)) c.in-Some-pop.is ∙ sum_by_push g.W.Runner.calls c.pop-in-Some.new.self.items c.in-Some-pop.runner in
    let handed = ap (sum_by (λ w. w.seat.handed)) c.push_reserved.ensures.items ∙ sum_by_push (λ w. w.seat.handed) l.workers.items _ in
    let made = ap (sum_by (λ w. g.W.Runner.calls w.runner)) c.push_reserved.ensures.items ∙ sum_by_push (λ w. g.W.Runner.calls w.runner) l.workers.items _ in
    let one = subst (λ o. IfSome o may) c.in-Some-pop.is split.1 in record {
      same = search rules;
      all = search rules;
      room = search rules;
      handed = omega (arith, l.invariant.handed, seats, handed);
      made = omega (arith, l.invariant.made, runners, made);
      told = subst (All (λ w. may w.runner)) (sym c.push_reserved.ensures.items) (All-push (λ w. may w.runner) l.workers.items _ l.invariant.told one);
      left = split.0;
    }
