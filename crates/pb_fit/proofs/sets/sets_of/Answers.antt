use Rattle.std.proofs.Common.{◌≡◌, ◌+◌, ◌∷◌, drop, string_bytes, sym, ap, ◌∙◌}
use Rattle.std.proofs.lemmas.List.{drop_all}
use Rattle.pb_language.specs.Cases.{append_sets, sets, parts_set}
use Rattle.pb_language.specs.Expansion.{parts_expanded}
use Rattle.pb_kind.specs.KindView.{kind_view}
use Rattle.pb_syntax.proofs.Left.{drop-at}
use Rattle.pb_taught.specs.TaughtView.{scope_view}
use Rattle.pb_template.specs.Entries.{entries_view}
use Rattle.pb_fit.specs.SetsView.{sets_view}
use Rattle.pb_fit.proofs.SetNames.{append_sets-push, append_sets-none}
use Rattle.pb_fit.proofs.sets.sets_of.Goals as goal

pub loop-argument-preserved : goal.loop-argument-preserved
loop-argument-preserved g c = λ a.
    let l = c.loop-argument in
    let b = g.K.Known.before c.args.known.now in
    let s = scope_view b c.args.taught.now in
    let items = c.args.arguments.now in
    let i = l.argument-index in
    let e = c.argument-item.result in
    let rest = parts_set s a (parts_expanded b.trees (entries_view (drop (i + 1) items))) in
    let known = l.sets.items in
    let next : drop i items ≡ e ∷ drop (i + 1) items = drop-at items i e c.loop-argument-test.true c.argument-item.is in
    ap (λ ss. append_sets (sets_view a ss) rest) c.in_ok-push.ensures.items ∙ append_sets-push a known _ rest
    ∙ ap (λ n. append_sets (sets_view a known) (sets n a (kind_view c.in_ok-found.found.kind) rest)) (ap string_bytes c.in_ok-name.ensures.cases)
    ∙ ap (λ k. append_sets (sets_view a known) (sets (string_bytes e.name.value) a k rest)) c.in_ok-found.ensures.kind
    ∙ ap (λ es. append_sets (sets_view a known) (parts_set s a (parts_expanded b.trees (entries_view es)))) (sym next) ∙ l.invariant a

pub returns : goal.returns
returns g c = λ a.
    let l = c.loop-argument in
    let b = g.K.Known.before c.args.known.now in
    let s = scope_view b c.args.taught.now in
    let past = drop_all l.argument-index c.args.arguments.now c.loop-argument-test.false in
    sym (append_sets-none (sets_view a l.sets.items))
    ∙ ap (λ es. append_sets (sets_view a l.sets.items) (parts_set s a (parts_expanded b.trees (entries_view es)))) (sym past) ∙ l.invariant a
