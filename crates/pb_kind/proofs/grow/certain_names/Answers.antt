use Rattle.std.proofs.Common.{List, map, String, Global, string_bytes, sym, ap, ◌∙◌}
use Rattle.pb_semantics.specs.Join.{put_name}
use Rattle.std.proofs.Common.{cond}
use Rattle.pb_kind.specs.KindView.{slots_view}
use Rattle.pb_semantics.specs.Grown.{marked, all_sure, sure_names}
use Rattle.pb_kind.proofs.KindLemmas.{SlotEntry}
use Rattle.pb_kind.proofs.JoinLemmas.{names-insert_key}
use Rattle.pb_semantics.proofs.Ascents.{opened}
use Rattle.pb_kind.proofs.GrowLemmas.{ascend_slots}
use Rattle.pb_kind.proofs.grow.certain_names.Goals as goal

pub loop-name-preserved-in_ok-insert : goal.loop-name-preserved-in_ok-insert
loop-name-preserved-in_ok-insert c =
    let l = c.loop-name in
    let left = slots_view c.next.new.self in
    let old = map (λ (n : String Global). string_bytes n) l.all.keys in
    l.invariant ∙ ap (λ (es : List SlotEntry). sure_names (slots_view es) old) c.in-Some.ensures.steps
    ∙ ap (λ b. sure_names left (cond b (put_name (string_bytes c.in-Some.name.now) old) old)) (sym c.is_always.ensures ∙ c.if-is_always.true)
    ∙ ap (λ n. sure_names left (put_name n old)) (sym c.in_ok-clone.ensures.cases)
    ∙ ap (sure_names left) (sym (names-insert_key l.all.keys c.in_ok-clone.field-0))
    ∙ ap (λ (ns : List (String Global)). sure_names left (map (λ n. string_bytes n) ns)) (sym c.in_ok-insert.ensures.keys)

pub returns : goal.returns
returns c =
    let l = c.loop-name in
    let ss = slots_view c.args.slots.now.entries in
    let names = map (λ (n : String Global). string_bytes n) l.all.keys in
    ap (marked (all_sure ss)) (sym (l.invariant ∙ ap (λ (es : List SlotEntry). sure_names (slots_view es) names) c.in-None.ensures.steps.0))
    ∙ opened ss (ascend_slots c.args.slots.now.entries c.iter-name-items.ensures.ordered)
