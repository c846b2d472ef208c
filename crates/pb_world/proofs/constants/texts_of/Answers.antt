use Rattle.std.proofs.Common.{◌∙◌, map, ap, string_bytes}
use Rattle.std.proofs.lemmas.List.{take_all}
use Rattle.std.proofs.lemmas.Result.{IfOk-weaker}
use Rattle.pb_semantics.specs.Data.{text}
use Rattle.pb_world.proofs.HostLists.{list-of-texts}
use Rattle.pb_world.proofs.constants.texts_of.Goals as goal

pub returns : goal.returns
returns c =
    let l = c.loop-text in
    let ts = c.args.texts.now in
    IfOk-weaker c.of_items.result _ _ (λ v h. h ∙ list-of-texts l.items.items (map (λ t. string_bytes t.value) ts) (l.invariant ∙ ap (λ xs. map text (map (λ t. string_bytes t.value) xs)) (take_all l.text-index ts c.loop-text-test.false))) c.of_items.ensures
