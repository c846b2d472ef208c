use Rattle.std.proofs.Common.{◌≡◌, ◌+◌, ◌++◌, drop, [], sym, ap, ◌∙◌}
use Rattle.std.proofs.lemmas.List.{drop_all}
use Rattle.pb_taught.specs.TaughtView.{learned_view}
use Rattle.pb_taught.specs.declared.scope.Learned.{Learned}
use Rattle.pb_taught.proofs.NamedRoots.{append_learned, append-nothing, learned-copy, learned-turn}
use Rattle.pb_syntax.proofs.Left.{drop-at}
use Rattle.pb_taught.proofs.scope.learned_copied.Goals as goal

pub loop-taught-preserved : goal.loop-taught-preserved
loop-taught-preserved c = λ f.
    let l = c.loop-taught in
    let items = c.args.learned.now in
    let i = l.taught-index in
    let one = c.taught-item.result in
    let rest = drop (i + 1) items in
    let made : Learned = record { name = c.in_ok-name.name; kind = c.in_ok-kind.kind } in
    l.invariant f ∙ ap (λ xs. append_learned (learned_view f l.all.items) (learned_view f xs)) (drop-at items i one c.loop-taught-test.true c.taught-item.is)
    ∙ ap (append_learned (learned_view f l.all.items)) (learned-copy f one made rest c.in_ok-name.ensures.cases c.in_ok-kind.ensures.cases)
    ∙ sym (learned-turn f l.all.items c.push.new.self.items made (learned_view f rest) c.in_ok-push.ensures.items)

pub returns : goal.returns
returns c = λ f.
    let l = c.loop-taught in
    let past = drop_all l.taught-index c.args.learned.now c.loop-taught-test.false in
    sym (l.invariant f ∙ ap (λ xs. append_learned (learned_view f l.all.items) (learned_view f xs)) past ∙ append-nothing (learned_view f l.all.items))
