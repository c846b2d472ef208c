use Rattle.std.proofs.Common.{◌∙◌, ◌+◌, drop, sym, ap, Vec, Global, String, string_bytes, Some}
use Rattle.std.proofs.lemmas.List.{drop_all, map_push}
use Rattle.std.specs.declared.sync.Arc.{Arc}
use Rattle.pb_language.specs.TaskForm.{text_in}
use Rattle.pb_language.specs.Written.{names_in}
use Rattle.pb_value.specs.View.{view, items_view}
use Rattle.pb_inventory.specs.Documents.{formed, names_view}
use Rattle.pb_inventory.proofs.Formed.{and_first, before, before-none, before-all, before-push, and_first-none, formed-ok, Gives-formed}
use Rattle.pb_inventory.proofs.Named.{names_in-next}
use Rattle.pb_inventory.proofs.document.names_in.Goals as goal

pub returns-in_err-name_of : goal.returns-in_err-name_of
returns-in_err-name_of c =
    let l = c.loop-item in
    let vs = c.args.items.now in
    let v = c.item-item.result in
    let rest = names_in (items_view (drop (l.item-index + 1) vs)) in
    let done = names_view l.names.items in
    Gives-formed (λ (ns : Vec (Arc (String Global) Global) Global). names_view ns.items) _ _ (text_in (Some (view v))) (names_in (items_view vs)) c.from_residual-in_err-name_of.ensures.1 c.in_err-name_of.ensures
    (λ none. l.invariant ∙ ap (before done) (names_in-next vs l.item-index v c.loop-item-test.true c.item-item.is ∙ ap (λ x. and_first x rest) none ∙ and_first-none rest) ∙ before-none done)

pub loop-item-preserved : goal.loop-item-preserved
loop-item-preserved c =
    let l = c.loop-item in
    let vs = c.args.items.now in
    let v = c.item-item.result in
    let rest = names_in (items_view (drop (l.item-index + 1) vs)) in
    let done = names_view l.names.items in
    let n = c.in_ok-name_of.field-0 in
    l.invariant ∙ ap (before done) (names_in-next vs l.item-index v c.loop-item-test.true c.item-item.is ∙ ap (λ x. and_first x rest) (formed-ok (text_in (Some (view v))) (string_bytes n.value) c.in_ok-name_of.ensures))
    ∙ before-push done (string_bytes n.value) rest ∙ ap (λ ns. before ns rest) (sym (ap names_view c.in_ok-push.ensures.items ∙ map_push (λ (x : Arc (String Global) Global). string_bytes x.value) l.names.items n))

pub returns : goal.returns
returns c =
    let l = c.loop-item in
    let vs = c.args.items.now in
    ap formed (l.invariant ∙ ap (λ xs. before (names_view l.names.items) (names_in (items_view xs))) (drop_all l.item-index vs c.loop-item-test.false) ∙ before-all (names_view l.names.items))
