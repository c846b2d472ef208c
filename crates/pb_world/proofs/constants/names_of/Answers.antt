use Rattle.std.proofs.Common.{◌∙◌, List, map, sym, ap}
use Rattle.std.proofs.lemmas.List.{take_all}
use Rattle.std.proofs.lemmas.Result.{IfOk-weaker}
use Rattle.pb_inventory.specs.Numbered.{named}
use Rattle.pb_semantics.specs.Data.{text}
use Rattle.pb_value.specs.View.{view}
use Rattle.pb_value.specs.declared.value.Value.{Value}
use Rattle.pb_world.specs.declared.constants.HostConstants.{HostConstants}
use Rattle.pb_world.proofs.HostLists.{list-of-texts, name-next}
use Rattle.pb_world.proofs.constants.names_of.Goals as goal

pub loop-member-preserved : goal.loop-member-preserved
loop-member-preserved c =
    let l = c.loop-member in
    let ms = c.args.members.now in
    λ ns same.
    ap (λ (vs : List Value). map view vs) c.in_ok-push.ensures.items
    ∙ name-next c.args.hosts.now ns ms l.member-index 0 c.index-hosts-member.result l.names.items c.in_ok-clone.field-0 same c.loop-member-test.true (c.requires l.member-index 0 c.loop-member-test.true) c.index-hosts-member.is
    (c.in_ok-clone.ensures.cases ∙ ap (λ (h : HostConstants). view h.name) (sym c.index-hosts-member.is)) (l.invariant ns same)

pub returns : goal.returns
returns c =
    let l = c.loop-member in
    let ms = c.args.members.now in
    IfOk-weaker c.of_items.result _ _ (λ v h ns same. h ∙ list-of-texts l.names.items (named ns ms) (l.invariant ns same ∙ ap (λ ks. map text (named ns ks)) (take_all l.member-index ms c.loop-member-test.false))) c.of_items.ensures
