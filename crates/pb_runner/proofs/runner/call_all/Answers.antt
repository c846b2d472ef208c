use Rattle.std.proofs.Common.{◌≡◌, ◌++◌, ◌∷◌, [], ◌+◌, take, sym, ap, subst, ◌∙◌, arith}
use Rattle.std.proofs.lemmas.List.{take_more, take_all}
use Rattle.pb_runner.specs.Answered.{AreAnswered}
use Rattle.pb_runner.proofs.Answered.{AreAnswered-push}
use Rattle.pb_runner.proofs.runner.call_all.Goals as goal

pub loop-call-preserved : goal.loop-call-preserved
loop-call-preserved g c =
    let calls = c.args.calls.now in
    let i = c.loop-call.call-index in
    let x = c.call-item.result in
    let longer : take (i + 1) calls ≡ take i calls ++ x ∷ [] = take_more calls i x c.loop-call-test.true ∙ ap (λ y. take i calls ++ y ∷ []) (sym c.call-item.is) in record {
      made = omega (arith, c.call.ensures.made, c.loop-call.invariant.made);
      answered = AreAnswered-push g.R.Runner.answers c.args.runner.now (take i calls) c.loop-call.answers.items c.loop-call.runner x c.call.result c.call.new.self (take (i + 1) calls) c.push.new.self.items longer c.in_ok-push.ensures.items
          c.loop-call.invariant.answered c.call.ensures.answered;
    }

pub returns : goal.returns
returns g c = record {
  made = omega (arith, c.loop-call.invariant.made, c.loop-call.auto.call-index-end, c.loop-call-test.false);
  answered = subst (λ cs. AreAnswered g.R.Runner.answers c.args.runner.now cs c.loop-call.answers.items c.loop-call.runner)
      (take_all c.loop-call.call-index c.args.calls.now c.loop-call-test.false) c.loop-call.invariant.answered;
}
