use Rattle.std.proofs.Common.{◌≡◌, ◌∙◌, ap, take, string_bytes}
use Rattle.std.proofs.lemmas.List.{take_all}
use Rattle.pb_syntax.specs.ExprView.{parts_view}
use Rattle.pb_prepare.proofs.Lists.{name-next, named_entries, names-view}
use Rattle.pb_prepare.proofs.bound.Bound.names.Goals as goal

pub loop-entry-preserved : goal.loop-entry-preserved
loop-entry-preserved c =
    let l = c.loop-entry in
    let e = c.entry-item.result in
    let name = c.in_ok-name.ensures.ok ∙ c.as_str.ensures.value ∙ ap string_bytes c.deref.ensures in
    name-next c.args.entries.now l.entry-index e l.names.items c.push.new.self.items c.in_ok-name.name c.in_ok-value.value c.loop-entry-test.true c.entry-item.is name c.in_ok-value.ensures.same c.in_ok-push.ensures.items l.invariant

pub returns : goal.returns
returns c =
    let l = c.loop-entry in
    let es = c.args.entries.now in l.invariant ∙ ap (λ xs. parts_view (named_entries xs)) (take_all l.entry-index es c.loop-entry-test.false) ∙ names-view es
