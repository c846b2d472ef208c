use Rattle.std.proofs.Common.{◌≡◌, ◌+◌, [], ◌∷◌, ◌++◌, ◌∙◌, drop, string_bytes, sym, ap, append-nil}
use Rattle.std.proofs.lemmas.List.{drop_all}
use Rattle.pb_rules.specs.Handlers.{handlers_names}
use Rattle.pb_task.specs.Tasks.{names_view}
use Rattle.pb_steps.specs.Numbers.{handlers_named}
use Rattle.pb_steps.proofs.Used.{drop-at, texts-left}
use Rattle.pb_steps.proofs.uses.handlers_named.Goals as goal

pub loop-text-preserved : goal.loop-text-preserved
loop-text-preserved c =
    let l = c.loop-text in
    let ts = c.args.texts.now in
    let hs = handlers_names c.args.handlers.now in
    let t = c.text-item.result in
    let rest = names_view (drop (l.text-index + 1) ts) in
    let is : c.as_str.result.now ≡ string_bytes t.value = c.as_str.ensures.value ∙ ap string_bytes c.deref.ensures in
    texts-left hs c.as_str.result.now rest l.numbers.items c.add_named.new.numbers.items (handlers_named hs (names_view ts)) c.in_ok-add_named.ensures
    (ap (λ n. l.numbers.items ++ handlers_named hs (n ∷ rest)) is ∙ ap (λ xs. l.numbers.items ++ handlers_named hs (names_view xs)) (sym (drop-at ts l.text-index t c.loop-text-test.true c.text-item.is)) ∙ l.invariant)

pub returns : goal.returns
returns c =
    let l = c.loop-text in
    let hs = handlers_names c.args.handlers.now in
    sym (append-nil l.numbers.items) ∙ ap (λ xs. l.numbers.items ++ handlers_named hs (names_view xs)) (sym (drop_all l.text-index c.args.texts.now c.loop-text-test.false)) ∙ l.invariant
