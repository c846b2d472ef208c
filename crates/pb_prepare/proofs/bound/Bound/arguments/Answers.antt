use Rattle.std.proofs.Common.{◌≡◌, ◌∙◌, ap, take, string_bytes}
use Rattle.std.proofs.lemmas.List.{take_all}
use Rattle.pb_syntax.specs.ExprView.{parts_view}
use Rattle.pb_prepare.proofs.Arguments.{argument_entries, ascending-arguments, bound-next, parts_of-arguments}
use Rattle.pb_prepare.proofs.bound.Bound.arguments.Goals as goal

pub loop-entry-preserved : goal.loop-entry-preserved
loop-entry-preserved c ordered =
    let l = c.loop-entry in
    let xs = c.args.entries.now in
    let a = c.entry-item.result in
    let name = c.in_ok-name.ensures.ok ∙ c.as_str.ensures.value ∙ ap string_bytes c.deref.ensures in
    bound-next xs l.entry-index a l.arguments.entries c.insert.new.self.entries c.in_ok-name.name c.in_ok-value.value c.loop-entry-test.true c.entry-item.is (ascending-arguments xs ordered) name c.in_ok-value.ensures.same
    c.in_ok-insert.ensures.entries (l.invariant ordered).0 (l.invariant ordered).1

pub returns : goal.returns
returns c ordered =
    let l = c.loop-entry in
    let xs = c.args.entries.now in (l.invariant ordered).1 ∙ ap (λ ys. parts_view (argument_entries ys)) (take_all l.entry-index xs c.loop-entry-test.false) ∙ parts_of-arguments xs
