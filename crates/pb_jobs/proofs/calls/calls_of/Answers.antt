use Rattle.std.proofs.Common.{◌≡◌, ℕ, List, ◌++◌, ◌+◌, map, drop, length, string_bytes, sym, ap, ◌∙◌, append_assoc, arith}
use Rattle.std.proofs.lemmas.List.{append-nil, drop_all, length-append, length-map}
use Rattle.pb_syntax.proofs.Left.{drop-at}
use Rattle.pb_language.specs.Cases.{action_name}
use Rattle.pb_history.specs.Jobs.{CallData, pass_calls}
use Rattle.pb_start.specs.Words.{action_view, entry_view, pass_view}
use Rattle.pb_jobs.specs.Calls.{call_data, own_calls}
use Rattle.pb_language.specs.Start.{call_count}
use Rattle.pb_start.specs.Prepared.{trees_of}
use Rattle.std.proofs.lemmas.Result.{err_from_is_err_and}
use Rattle.pb_jobs.proofs.Begins.{calls_many}
use Rattle.pb_jobs.proofs.Passes.{own_first}
use Rattle.pb_jobs.proofs.calls.calls_of.Goals as goal

pub loop-pass-preserved : goal.loop-pass-preserved
loop-pass-preserved c = λ f.
    let ps = c.args.passes.now in
    let k = c.args.host in
    let host = string_bytes c.args.task.now.name.now.value in
    let m = action_name (action_view f c.args.task.now.task.now.action) in
    let i = c.loop-pass.pass-index in
    let p = c.pass-item.result in
    let done = map call_data c.loop-pass.calls.items in
    let n = c.args.task.now.before + length c.loop-pass.calls.items in
    let own = own_calls k host m (entry_view p.entry) n in
    let rest : ℕ → List CallData = λ j. pass_calls k host m (map pass_view (drop (i + 1) ps)) j in
    let made : map call_data c.add_call.new.calls.items ≡ done ++ own = c.in_ok-add_call.ensures.added f in
    let number : n + length own ≡ c.args.task.now.before + length c.add_call.new.calls.items =
    omega (arith, sym (length-map c.add_call.new.calls.items call_data) ∙ ap length made ∙ length-append done own, length-map c.loop-pass.calls.items call_data) in
    c.loop-pass.invariant f
    ∙ ap (λ rs. done ++ pass_calls k host m (map pass_view rs) n) (drop-at ps i p c.loop-pass-test.true c.pass-item.is)
    ∙ ap (λ xs. done ++ xs) (own_first k host m (entry_view p.entry) rest n ∙ ap (λ j. own ++ rest j) number)
    ∙ sym (append_assoc done own (rest (c.args.task.now.before + length c.add_call.new.calls.items)))
    ∙ ap (λ xs. xs ++ rest (c.args.task.now.before + length c.add_call.new.calls.items)) (sym made)

pub returns-clause-calls : goal.returns-clause-calls
returns-clause-calls c = λ f.
    let n = c.args.task.now.before + length c.loop-pass.calls.items in
    sym (c.loop-pass.invariant f
    ∙ ap (λ rs. map call_data c.loop-pass.calls.items ++ pass_calls c.args.host (string_bytes c.args.task.now.name.now.value) (action_name (action_view f c.args.task.now.task.now.action)) (map pass_view rs) n) (drop_all c.loop-pass.pass-index c.args.passes.now c.loop-pass-test.false)
    ∙ append-nil (map call_data c.loop-pass.calls.items))

pub returns-in_err-add_call-clause-full : goal.returns-in_err-add_call-clause-full
returns-in_err-add_call-clause-full c =
    let p = err_from_is_err_and c.from_residual.result c.from_residual.ensures.1 in
    let task = c.args.task.now in
    let f = trees_of task.task.now in
    let host = string_bytes task.name.now.value in
    let m = action_name (action_view f task.task.now.action) in
    let done = map call_data c.loop-pass.calls.items in
    let rest = pass_calls c.args.host host m (map pass_view (drop c.loop-pass.pass-index c.args.passes.now)) (task.before + length c.loop-pass.calls.items) in
    let all : call_count (map pass_view c.args.passes.now) ≡ length done + length rest =
    sym (calls_many c.args.host host m (map pass_view c.args.passes.now) task.before) ∙ ap length (c.loop-pass.invariant f) ∙ length-append done rest in
    rw (p.1, p.2) (λ e. omega (arith, c.in_err-add_call.ensures.full e, all, length-map c.loop-pass.calls.items call_data))
