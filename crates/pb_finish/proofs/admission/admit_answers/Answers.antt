use Rattle.std.proofs.Common.{◌≤◌, ℕ, ◌+◌, [], ◌∷◌, ◌++◌, length, map, drop, option_map, sym, ap, ◌∙◌, subst, arith}
use Rattle.std.proofs.lemmas.List.{map_push}
use Rattle.pb_language.specs.Give.{admit_passes}
use Rattle.pb_syntax.proofs.Left.{drop-at}
use Rattle.pb_syntax.specs.Aliases.{Trees, no_trees}
use Rattle.pb_start.specs.Actions.{action_view}
use Rattle.pb_start.specs.Passes.{entry_view, pass_view}
use Rattle.pb_finish.specs.Answers.{IsFaultOf, answer_data, first_of}
use Rattle.pb_finish.specs.Results.{Explains, answers_after, result_view, is_call_entry, put_item}
use Rattle.pb_finish.proofs.Admissions.{AreLooked, IsNext, after_owns, owns-first, owns-step, answers-left, cond-small, first-breach, next-answer, next-entry, next-read, pass-admitted}
use Rattle.pb_finish.proofs.admission.admit_answers.Goals as goal

pub loop-pass-init : goal.loop-pass-init
loop-pass-init c =
    let ps = c.args.passes.now in
    let xs = c.args.answers.now in
    record {
      few = omega arith;
      within = omega arith;
      looked = λ f ys.
          let whole = admit_passes (action_view f c.args.action.now) (map pass_view ps) ys in
          sym (ap (λ os. after_owns (map result_view os) whole) c.in_ok-results.ensures.items ∙ owns-first whole);
      same = λ f.
          let whole = admit_passes (action_view f c.args.action.now) (map pass_view ps) (map answer_data xs) in
          sym (ap (λ os. after_owns (map result_view os) whole) c.in_ok-results.ensures.items ∙ owns-first whole);
    }

pub loop-pass-preserved : goal.loop-pass-preserved
loop-pass-preserved c =
    let ps = c.args.passes.now in
    let i = c.loop-pass.pass-index in
    let p = c.pass-item.result in
    let n = c.loop-pass.next in
    let xs = c.args.answers.now in
    let q = is_call_entry (entry_view p.entry) in
    let done = map result_view c.loop-pass.results.items in
    let r = c.in-Result.result in
    let pv = pass_view p in
    let left = map pass_view (drop (i + 1) ps) in
    let next : (f : Trees) → (n + c.calls_of-next.result ≤ length xs) × AreLooked (action_view f c.args.action.now) (map pass_view ps) xs (n + c.calls_of-next.result) (done ++ result_view r ∷ []) left = λ f.
    let a = action_view f c.args.action.now in
    subst (λ (m : ℕ). (n + m ≤ length xs) × AreLooked a (map pass_view ps) xs (n + m) (done ++ result_view r ∷ []) left) (sym c.calls_of-next.ensures)
    (next-entry a (map pass_view ps) left xs n done r pv.item pv.entry c.loop-pass.invariant.within
    (λ ys. c.loop-pass.invariant.looked f ys ∙ ap (λ rs. after_owns done (admit_passes a (map pass_view rs) ys)) (drop-at ps i p c.loop-pass-test.true c.pass-item.is))
    (subst (λ k. IsNext k a pv.item pv.entry (first_of (drop n xs))) c.in-Result.is (next-read c.in_ok-admitted.admitted a pv (drop n xs) c.answer_at.result c.answer_at.ensures (c.in_ok-admitted.ensures.admits f)))) in
    record {
      within = (next no_trees).0;
      looked = λ f ys. (next f).1 ys ∙ ap (λ os. after_owns os (admit_passes (action_view f c.args.action.now) left ys)) (sym (ap (map result_view) c.in_ok-push-in-Result.ensures.items ∙ map_push result_view c.loop-pass.results.items r));
      few = omega (arith, c.loop-pass.invariant.few, c.calls_of-next.ensures, cond-small q);
      same = λ f.
          let a = action_view f c.args.action.now in
          let go = admit_passes a (map pass_view (drop (i + 1) ps)) in
          pass-admitted a done (pass_view p) (map pass_view (drop (i + 1) ps)) (map answer_data (drop n xs)) (option_map (λ x. answer_data x.now) c.answer_at.result) c.in_ok-admitted.admitted (admit_passes a (map pass_view ps) (map answer_data xs))
          (c.loop-pass.invariant.same f ∙ ap (λ rs. after_owns done (admit_passes a (map pass_view rs) (map answer_data (drop n xs)))) (drop-at ps i p c.loop-pass-test.true c.pass-item.is))
          (next-answer (drop n xs) c.answer_at.result c.answer_at.ensures) (c.in_ok-admitted.ensures.admits f)
          ∙ ap (λ k. after_owns done (put_item k (go (answers_after q (map answer_data (drop n xs)))))) c.in-Result.is
          ∙ owns-step done (result_view c.in-Result.result) (go (answers_after q (map answer_data (drop n xs))))
          ∙ ap (λ ys. after_owns (done ++ result_view c.in-Result.result ∷ []) (go ys)) (answers-left q n xs ∙ ap (λ m. map answer_data (drop (n + m) xs)) (sym c.calls_of-next.ensures))
          ∙ ap (λ os. after_owns os (go (map answer_data (drop (n + c.calls_of-next.result) xs)))) (sym (ap (map result_view) c.in_ok-push-in-Result.ensures.items ∙ map_push result_view c.loop-pass.results.items c.in-Result.result));
    }

pub returns-in-Breached-clause-admits : goal.returns-in-Breached-clause-admits
returns-in-Breached-clause-admits c = λ f.
    let ps = c.args.passes.now in
    let i = c.loop-pass.pass-index in
    let p = c.pass-item.result in
    let n = c.loop-pass.next in
    let xs = c.args.answers.now in
    let done = map result_view c.loop-pass.results.items in
    let a = action_view f c.args.action.now in
    let left = map pass_view (drop (i + 1) ps) in
    let ys = map answer_data (drop n xs) in
    sym (pass-admitted a done (pass_view p) left ys (option_map (λ x. answer_data x.now) c.answer_at.result) c.in_ok-admitted.admitted (admit_passes a (map pass_view ps) (map answer_data xs))
    (c.loop-pass.invariant.same f ∙ ap (λ rs. after_owns done (admit_passes a (map pass_view rs) ys)) (drop-at ps i p c.loop-pass-test.true c.pass-item.is))
    (next-answer (drop n xs) c.answer_at.result c.answer_at.ensures) (c.in_ok-admitted.ensures.admits f)
    ∙ ap (λ k. after_owns done (put_item k (admit_passes a left (answers_after (is_call_entry (entry_view p.entry)) ys)))) c.in-Breached.is)

pub returns-in-Unreached-clause-admits : goal.returns-in-Unreached-clause-admits
returns-in-Unreached-clause-admits c = λ f.
    let ps = c.args.passes.now in
    let i = c.loop-pass.pass-index in
    let p = c.pass-item.result in
    let n = c.loop-pass.next in
    let xs = c.args.answers.now in
    let done = map result_view c.loop-pass.results.items in
    let a = action_view f c.args.action.now in
    let left = map pass_view (drop (i + 1) ps) in
    let ys = map answer_data (drop n xs) in
    sym (pass-admitted a done (pass_view p) left ys (option_map (λ x. answer_data x.now) c.answer_at.result) c.in_ok-admitted.admitted (admit_passes a (map pass_view ps) (map answer_data xs))
    (c.loop-pass.invariant.same f ∙ ap (λ rs. after_owns done (admit_passes a (map pass_view rs) ys)) (drop-at ps i p c.loop-pass-test.true c.pass-item.is))
    (next-answer (drop n xs) c.answer_at.result c.answer_at.ensures) (c.in_ok-admitted.ensures.admits f)
    ∙ ap (λ k. after_owns done (put_item k (admit_passes a left (answers_after (is_call_entry (entry_view p.entry)) ys)))) c.in-Unreached.is)

pub returns-in-Breached-clause-explains : goal.returns-in-Breached-clause-explains
returns-in-Breached-clause-explains c = λ f.
    let ps = c.args.passes.now in
    let i = c.loop-pass.pass-index in
    let p = c.pass-item.result in
    let n = c.loop-pass.next in
    let xs = c.args.answers.now in
    let done = map result_view c.loop-pass.results.items in
    let a = action_view f c.args.action.now in
    let q = c.in-Breached.fault in
    let pv = pass_view p in
    first-breach a (map pass_view ps) (map pass_view (drop (i + 1) ps)) pv xs n done q c.loop-pass.invariant.within
    (λ ys. c.loop-pass.invariant.looked f ys ∙ ap (λ rs. after_owns done (admit_passes a (map pass_view rs) ys)) (drop-at ps i p c.loop-pass-test.true c.pass-item.is))
    (subst (λ k. IsNext k a pv.item pv.entry (first_of (drop n xs))) c.in-Breached.is (next-read c.in_ok-admitted.admitted a pv (drop n xs) c.answer_at.result c.answer_at.ensures (c.in_ok-admitted.ensures.admits f)))
    (subst (λ o. IsFaultOf q o) c.answer_at.ensures (subst (λ k. Explains k (option_map (λ x. x.now) c.answer_at.result)) c.in-Breached.is c.in_ok-admitted.ensures.explains))
