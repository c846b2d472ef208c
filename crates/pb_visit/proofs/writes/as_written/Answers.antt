use Rattle.std.proofs.Common.{◌≡◌, ◌∙◌, List, [], ap, ap₂, sym}
use Rattle.pb_language.specs.Cases.{append_sets}
use Rattle.pb_fit.specs.SetsView.{sets_view as found_view}
use Rattle.pb_fit.specs.declared.sets.Set as found
use Rattle.pb_transfer.specs.Written.{sets_view}
use Rattle.pb_transfer.specs.declared.written.Set.{Set}
use Rattle.pb_route.proofs.Facts.{nothing_left}
use Rattle.pb_route.proofs.Sets.{append_sets-none, append_sets-push}
use Rattle.pb_visit.proofs.writes.as_written.Goals as goal

pub loop-name-init : goal.loop-name-init
loop-name-init c =
    ap₂ (λ (xs : List Set) (ys : List found.Set). append_sets (sets_view xs) (found_view c.args.is_certain ys)) c.in_ok-sets.ensures.items c.into_iter-name-iterator.ensures.into_iter_gives.0

pub loop-name-preserved : goal.loop-name-preserved
loop-name-preserved c =
    let l = c.loop-name in
    let b = c.args.is_certain in
    let x : Set = record { name = c.in-Some.field-0.name; is_certain = b; kind = c.in-Some.field-0.kind } in
    let rest = found_view b c.next.new.self.rest.items in
    ap (λ (xs : List Set). append_sets (sets_view xs) rest) c.in_ok-push.ensures.items ∙ append_sets-push l.sets.items x rest
    ∙ sym (ap (λ (ys : List found.Set). append_sets (sets_view l.sets.items) (found_view b ys)) c.in-Some.ensures.steps.0) ∙ l.invariant

pub returns : goal.returns
returns c =
    let l = c.loop-name in
    let left : l.name-iterator.rest.items ≡ [] = nothing_left l.name-iterator.rest.items l.name-iterator.rest.len (sym l.name-iterator.rest.ok.0) c.in-None.ensures.steps.0 in
    sym (append_sets-none (sets_view l.sets.items))
    ∙ sym (ap (λ (ys : List found.Set). append_sets (sets_view l.sets.items) (found_view c.args.is_certain ys)) left) ∙ l.invariant
