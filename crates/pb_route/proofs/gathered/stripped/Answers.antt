use Rattle.std.proofs.Common.{◌≡◌, ◌∙◌, ap, string_bytes, subst}
use Rattle.pb_language.specs.Cases.{after_prefix, fact_prefix}
use Rattle.pb_language.specs.Expression.{Name}
use Rattle.pb_kind.specs.KindView.{is_always, kind_view, slots_view}
use Rattle.pb_kind.proofs.GrowLemmas.{ascend_slots}
use Rattle.pb_route.specs.Gathered.{put_named}
use Rattle.pb_route.proofs.Stripped.{IsStripping, stripping_begins, stripping_ends, stripping_goes_on}
use Rattle.pb_route.proofs.gathered.stripped.Goals as goal

pub loop-name-init : goal.loop-name-init
loop-name-init c =
    let all = c.args.facts.now.entries in
    let items : c.into_iter-name-iterator.result ≡ all = c.into_iter-name-iterator.ensures.into_iter_gives ∙ c.iter-name-items.ensures.rest in
    rw (items, c.new-stripped.ensures.empty) (stripping_begins (slots_view all) (ascend_slots all c.iter-name-items.ensures.ordered))

pub loop-name-preserved : goal.loop-name-preserved
loop-name-preserved c =
    let l = c.loop-name in
    let all = slots_view c.args.facts.now.entries in
    let slot = c.in-Some.slot.now in
    let done = slots_view l.stripped.entries in
    let is = c.in_ok-put_stripped.ensures ∙ ap (λ (n : Name). put_named (after_prefix fact_prefix n) (is_always slot.presence) (kind_view slot.kind) done) c.as_str.ensures.value in
    rw is (stripping_goes_on all (slots_view c.next.new.self) done (string_bytes c.in-Some.name.now) (is_always slot.presence) (kind_view slot.kind)
    (subst (λ es. IsStripping all (slots_view es) done) c.in-Some.ensures.steps l.invariant))

pub returns : goal.returns
returns c =
    let all = slots_view c.args.facts.now.entries in
    let done = slots_view c.loop-name.stripped.entries in
    stripping_ends all done (subst (λ es. IsStripping all (slots_view es) done) c.in-None.ensures.steps.0 c.loop-name.invariant)
