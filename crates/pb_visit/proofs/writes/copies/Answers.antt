use Rattle.std.proofs.Common.{◌≡◌, ◌∙◌, ◌+◌, ◌∷◌, List, ap, ap₂, drop, string_bytes, sym}
use Rattle.std.proofs.lemmas.List.{drop_all}
use Rattle.pb_language.specs.Cases.{append_sets, sets}
use Rattle.pb_syntax.proofs.Left.{drop-at}
use Rattle.pb_transfer.specs.Written.{sets_view}
use Rattle.pb_transfer.specs.declared.written.Set.{Set}
use Rattle.pb_route.proofs.Sets.{append_sets-none, append_sets-push}
use Rattle.pb_visit.proofs.writes.copies.Goals as goal

pub loop-set-preserved : goal.loop-set-preserved
loop-set-preserved c =
    let l = c.loop-set in
    let s = c.set-item.result in
    let x : Set = record { name = c.in_ok-clone.field-0; is_certain = s.is_certain; kind = c.in_ok-clone-2.field-0 } in
    let all = c.args.sets.now in
    let rest = sets_view (drop (l.set-index + 1) all) in
    let next : drop l.set-index all ≡ s ∷ drop (l.set-index + 1) all = drop-at all l.set-index s c.loop-set-test.true c.set-item.is in
    ap (λ (xs : List Set). append_sets (sets_view xs) rest) c.in_ok-push.ensures.items ∙ append_sets-push l.copies.items x rest
    ∙ ap₂ (λ n k. append_sets (sets_view l.copies.items) (sets n s.is_certain k rest)) (ap string_bytes c.in_ok-clone.ensures.cases) c.in_ok-clone-2.ensures.cases
    ∙ sym (ap (λ (xs : List Set). append_sets (sets_view l.copies.items) (sets_view xs)) next) ∙ l.invariant

pub returns : goal.returns
returns c =
    let l = c.loop-set in
    let all = c.args.sets.now in
    let past = drop_all l.set-index all c.loop-set-test.false in
    sym (append_sets-none (sets_view l.copies.items)) ∙ sym (ap (λ (xs : List Set). append_sets (sets_view l.copies.items) (sets_view xs)) past) ∙ l.invariant
