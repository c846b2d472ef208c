use Rattle.std.proofs.Common.{◌≡◌, ◌+◌, ℕ, [], ◌∷◌, ◌++◌, ◌∙◌, Bool, Global, Vec, cond, drop, sym, ap, append-nil}
use Rattle.std.proofs.lemmas.List.{drop_all}
use Rattle.pb_language.specs.Notify.{notified}
use Rattle.pb_rules.specs.Handlers.{handlers_names, names_of}
use Rattle.pb_steps.proofs.Used.{drop-at, is-next}
use Rattle.pb_steps.proofs.uses.add_named.Goals as goal
use Rattle.pb_steps.proofs.uses.add_named.Goals.{then-is_named+in_ok-push, else-is_named}

pub loop-number-preserved : goal.loop-number-preserved
loop-number-preserved c =
    let l = c.loop-number in
    let hs = c.args.handlers.now in
    let n = c.args.text.now in
    let h = c.index-handlers-number.result in
    let left = handlers_names (drop (l.number + 1) hs) in
    let whole = c.args.numbers.now.items ++ notified 0 n (handlers_names hs) in
    let before : l.numbers.items ++ notified l.number n (handlers_names (h ∷ drop (l.number + 1) hs)) ≡ whole =
    ap (λ xs. l.numbers.items ++ notified l.number n (handlers_names xs)) (sym (drop-at hs l.number h c.loop-number-test.true c.index-handlers-number.is)) ∙ l.invariant in
    let old = l.numbers.items in
    let pushed = λ (b : Bool). cond b (old ++ l.number ∷ []) old in
    let put : c.if-is_named.numbers.items ≡ pushed c.is_named.result = elim c.if-is_named.branch [
      | then-is_named+in_ok-push w ↦ ap (λ (v : Vec ℕ Global). v.items) w.numbers-is ∙ w.in_ok-push.ensures.items ∙ ap pushed (sym w.if-is_named.true)
      | else-is_named w ↦ ap (λ (v : Vec ℕ Global). v.items) w.numbers-is ∙ ap pushed (sym w.if-is_named.false)
    ] in
    is-next n left (names_of h) l.number old c.if-is_named.numbers.items whole c.is_named.result c.is_named.ensures put before

pub returns : goal.returns
returns c =
    let l = c.loop-number in
    sym (append-nil l.numbers.items) ∙ ap (λ xs. l.numbers.items ++ notified l.number c.args.text.now (handlers_names xs)) (sym (drop_all l.number c.args.handlers.now c.loop-number-test.false)) ∙ l.invariant
