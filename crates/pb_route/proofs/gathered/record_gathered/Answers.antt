use Rattle.std.proofs.Common.{◌≡◌, ◌∙◌, List, [], ◌∷◌, ◌++◌, ◌&&◌, ap, sym}
use Rattle.pb_language.specs.Cases.{Sets, append_sets, facts_set, no_sets, sets}
use Rattle.pb_language.specs.Expression.{Name}
use Rattle.pb_kind.specs.KindView.{is_always, kind_view, slots_view}
use Rattle.pb_transfer.specs.Written.{sets_view}
use Rattle.pb_transfer.specs.declared.written.Set.{Set}
use Rattle.pb_route.proofs.Sets.{append_sets-none, append_sets-push}
use Rattle.pb_route.proofs.gathered.record_gathered.Goals as goal

pub loop-name-init : goal.loop-name-init
loop-name-init c =
    let all = c.args.facts.now.entries in
    let b = c.args.is_certain in
    let items : c.into_iter-name-iterator.result ≡ all = c.into_iter-name-iterator.ensures.into_iter_gives ∙ c.iter-name-items.ensures.rest in
    let first : c.push.new.self.items ≡ c.in_ok-record_of.field-0 ∷ [] = c.in_ok-push.ensures.items ∙ ap (λ (xs : List Set). xs ++ c.in_ok-record_of.field-0 ∷ []) c.new-all.ensures.items in
    rw items (ap (λ (xs : List Set). append_sets (sets_view xs) (facts_set b (slots_view all))) first ∙ ap (λ s. append_sets s (facts_set b (slots_view all))) c.in_ok-record_of.ensures)

pub loop-name-preserved : goal.loop-name-preserved
loop-name-preserved c =
    let l = c.loop-name in
    let b = c.args.is_certain in
    let x = c.in_ok-fact_of.field-0 in
    let slot = c.in-Some.slot.now in
    let rest = facts_set b (slots_view c.next.new.self) in
    let named = c.in_ok-fact_of.ensures ∙ ap (λ (n : Name). sets n (b && is_always slot.presence) (kind_view slot.kind) no_sets) c.as_str.ensures.value in
    ap (λ (xs : List Set). append_sets (sets_view xs) rest) c.in_ok-push-2.ensures.items
    ∙ append_sets-push l.all.items x rest
    ∙ ap (λ (s : Sets). append_sets (sets_view l.all.items) (append_sets s rest)) named
    ∙ sym (ap (λ es. append_sets (sets_view l.all.items) (facts_set b (slots_view es))) c.in-Some.ensures.steps)
    ∙ l.invariant

pub returns : goal.returns
returns c =
    let l = c.loop-name in
    sym (append_sets-none (sets_view l.all.items))
    ∙ sym (ap (λ es. append_sets (sets_view l.all.items) (facts_set c.args.is_certain (slots_view es))) c.in-None.ensures.steps.0)
    ∙ l.invariant
