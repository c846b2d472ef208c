use Rattle.std.proofs.Common.{◌≡◌, ◌+◌, ◌++◌, drop, [], Some, None, option_map, string_bytes, sym, ap, ◌∙◌, subst}
use Rattle.std.proofs.lemmas.List.{drop_all}
use Rattle.pb_language.specs.Scope.{both_learned}
use Rattle.pb_kind.specs.KindView.{kind_view}
use Rattle.pb_taught.specs.TaughtView.{learned_view}
use Rattle.pb_taught.specs.declared.scope.Learned.{Learned}
use Rattle.pb_taught.proofs.NamedRoots.{FindsTaught, append_learned, append-nothing, both-found, both-unfound}
use Rattle.pb_syntax.proofs.Left.{drop-at}
use Rattle.pb_taught.proofs.scope.both_learned.Goals.{in-Some+in_ok-kind+in_ok-name+in_ok-push, in_default}
use Rattle.pb_taught.proofs.scope.both_learned.Goals as goal

pub loop-taught-preserved : goal.loop-taught-preserved
loop-taught-preserved c = λ f.
    let l = c.loop-taught in
    let few = c.args.few.now in
    let many = c.args.many.now in
    let i = l.taught-index in
    let one = c.taught-item.result in
    let rest = drop (i + 1) few in
    let next = drop-at few i one c.loop-taught-test.true c.taught-item.is in
    let finds : FindsTaught (string_bytes one.name) (option_map (λ k. kind_view k.now) c.kind_learned.result) many =
    subst (λ n. FindsTaught n (option_map (λ k. kind_view k.now) c.kind_learned.result) many) c.as_str.ensures.value c.kind_learned.ensures in
    l.invariant f ∙ ap (λ xs. append_learned (learned_view f l.all.items) (both_learned (learned_view f xs) (learned_view f many))) next
    ∙ elim c.match-kind_learned.branch [
      | in-Some+in_ok-kind+in_ok-name+in_ok-push w ↦
          let made : Learned = record { name = w.in_ok-name.name; kind = w.in_ok-kind.kind } in
          both-found f one made (kind_view w.in-Some.other.now) rest many l.all.items c.match-kind_learned.all.items
          (subst (λ o. FindsTaught (string_bytes one.name) o many) (ap (option_map (λ k. kind_view k.now)) w.in-Some.is) finds)
          w.in_ok-name.ensures.cases w.in_ok-kind.ensures (ap (λ v. v.items) w.all-is ∙ w.in_ok-push.ensures.items)
      | in_default w ↦
          both-unfound f one rest many l.all.items (subst (λ o. FindsTaught (string_bytes one.name) o many) (ap (option_map (λ k. kind_view k.now)) w.in_default.is) finds)
          ∙ ap (λ v. append_learned (learned_view f v.items) (both_learned (learned_view f rest) (learned_view f many))) (sym w.all-is)
    ]

pub returns : goal.returns
returns c = λ f.
    let l = c.loop-taught in
    let past = drop_all l.taught-index c.args.few.now c.loop-taught-test.false in
    sym (l.invariant f ∙ ap (λ xs. append_learned (learned_view f l.all.items) (both_learned (learned_view f xs) (learned_view f c.args.many.now))) past
    ∙ append-nothing (learned_view f l.all.items))
