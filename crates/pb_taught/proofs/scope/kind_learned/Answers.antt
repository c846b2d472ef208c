use Rattle.std.proofs.Common.{◌≡◌, Some, ◌+◌, drop, true, cond, bytes_eq, sym, ap, ◌∙◌}
use Rattle.pb_language.specs.Scope.{learned_kind}
use Rattle.pb_kind.specs.KindView.{kind_view}
use Rattle.pb_taught.specs.TaughtView.{learned_view}
use Rattle.pb_taught.proofs.NamedRoots.{learned-at}
use Rattle.pb_syntax.proofs.Left.{drop-at}
use Rattle.pb_taught.proofs.scope.kind_learned.Goals as goal

pub returns-then-eq : goal.returns-then-eq
returns-then-eq c = λ f e h.
    let l = c.loop-taught in
    let items = c.args.learned.now in
    let i = l.taught-index in
    let one = c.taught-item.result in
    let n = c.args.name.now in
    l.invariant f e h ∙ ap (λ xs. learned_kind n e (learned_view f xs)) (drop-at items i one c.loop-taught-test.true c.taught-item.is)
    ∙ learned-at f n e one (drop (i + 1) items) true h (ap (bytes_eq n) (sym c.as_str.ensures.value) ∙ sym c.eq.ensures ∙ c.if-eq.true)
