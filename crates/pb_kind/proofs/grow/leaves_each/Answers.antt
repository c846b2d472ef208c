use Rattle.std.proofs.Common.{◌≡◌, true, false, map, String, Global, string_bytes, is_some, not, sym, ap, ◌∙◌}
use Rattle.pb_semantics.specs.Kind.{no_slots, spot}
use Rattle.pb_semantics.specs.Keeps.{is_among}
use Rattle.pb_semantics.specs.Grown.{marked}
use Rattle.pb_semantics.proofs.Ascents.{ascend_marked}
use Rattle.pb_kind.specs.KindView.{slots_view}
use Rattle.pb_kind.specs.Growing.{growing_view, kinds_view}
use Rattle.pb_kind.specs.Added.{met_spot, spot_of}
use Rattle.pb_kind.specs.Found.{spot_view}
use Rattle.pb_kind.proofs.GrowLemmas.{ascend_slots, ascend_kinds}
use Rattle.pb_kind.proofs.Adding.{left_view, left_next, left_none, adds_met, adds_none, adds_same, adds_other}
use Rattle.pb_kind.proofs.grow.leaves_each.Goals as goal

pub loop-name-init : goal.loop-name-init
loop-name-init c =
    let ns = map (λ (n : String Global). string_bytes n) c.args.certain.now.keys in
    let all = left_next c.iter-others.result c.next-next.result c.next-next.new.self c.next-next.ensures.steps ∙ ap slots_view c.iter-others.ensures.rest in
    let items : c.into_iter-name-iterator.result ≡ c.args.kinds.now.entries = c.into_iter-name-iterator.ensures.into_iter_gives ∙ c.iter-name-items.ensures.rest in
    (rw items (ascend_marked (kinds_view c.args.kinds.now.entries) ns (ascend_kinds c.args.kinds.now.entries c.iter-name-items.ensures.ordered)), λ f. rw (all, items) at f)

pub loop-name-preserved-then-is_some : goal.loop-name-preserved-then-is_some
loop-name-preserved-then-is_some c =
    let l = c.loop-name in
    let b = c.args.leads in
    let ns = map (λ (n : String Global). string_bytes n) c.args.certain.now.keys in
    let name = string_bytes c.in-Some.name.now in
    let there = growing_view c.in-Some.there.now in
    let found : spot_view c.slot_of-found.result ≡ spot_of name l.next = c.slot_of-found.ensures ∙ ap (λ n. spot_of n l.next) c.as_str.ensures.value in
    let some : is_some c.slot_of-found.result ≡ true = sym c.is_some.ensures ∙ c.if-is_some.true in
    let kept : met_spot b (spot_view c.slot_of-found.result) (spot (is_among name ns) there) ≡ spot (is_among name ns) there = rw c.as_str-in-loop-name.ensures.value at c.is_left.ensures c.if-not-is_left.false in
    let before = rw c.in-Some.ensures.steps at l.invariant in
    let rest = left_next l.others c.next-next-then-is_some.result c.next-next-then-is_some.new.self c.next-next-then-is_some.ensures.steps in
    (before.0.1, λ f. before.1 (adds_same b name (is_among name ns) there l.next c.slot_of-found.result l.others (marked (kinds_view c.next.new.self) ns) found some kept (rw rest at f)))

pub loop-name-preserved : goal.loop-name-preserved
loop-name-preserved c =
    let l = c.loop-name in
    let b = c.args.leads in
    let ns = map (λ (n : String Global). string_bytes n) c.args.certain.now.keys in
    let name = string_bytes c.in-Some.name.now in
    let there = growing_view c.in-Some.there.now in
    let none : is_some c.slot_of-found.result ≡ false = sym c.is_some.ensures ∙ c.if-is_some.false in
    let kept : met_spot b (spot_view c.slot_of-found.result) (spot (is_among name ns) there) ≡ spot (is_among name ns) there = rw c.as_str-in-loop-name.ensures.value at c.is_left.ensures c.if-not-is_left.false in
    let before = rw c.in-Some.ensures.steps at l.invariant in
    (before.0.1, λ f. before.1 (adds_other b name (is_among name ns) there c.slot_of-found.result (left_view l.next l.others) (marked (kinds_view c.next.new.self) ns) none kept before.0.0 f))

pub returns : goal.returns
returns c = λ h.
    let l = c.loop-name in
    let b = c.args.leads in
    let ns = map (λ (n : String Global). string_bytes n) c.args.certain.now.keys in
    let none : left_view l.next l.others ≡ no_slots = left_none l.next l.others (c.is_none.ensures ∙ ap not h) in
    let over : marked (kinds_view l.name-iterator) ns ≡ no_slots = ap (λ es. marked (kinds_view es) ns) c.in-None.ensures.steps.0 in
    adds_met b (slots_view c.args.slots.now.entries) (marked (kinds_view c.args.kinds.now.entries) ns)
    (ascend_slots c.args.slots.now.entries c.iter-others.ensures.ordered) (ascend_marked (kinds_view c.args.kinds.now.entries) ns (ascend_kinds c.args.kinds.now.entries c.iter-name-items.ensures.ordered))
    (l.invariant.1 (rw (none, over) (adds_none b)))
