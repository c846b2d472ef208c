use Rattle.std.proofs.Common.{◌≡◌, ◌+◌, ◌∷◌, drop, option_map, sym, ap, ◌∙◌}
use Rattle.pb_semantics.specs.Join.{join}
use Rattle.pb_language.specs.Fit.{first}
use Rattle.pb_kind.specs.Growing.{joined_onto}
use Rattle.pb_forms.specs.FitView.{fault_view}
use Rattle.pb_forms.specs.InferredView.{joined_in, part_fault, part_faults_in}
use Rattle.pb_forms.proofs.Findings.{fault-turn, onto-last}
use Rattle.pb_syntax.proofs.Left.{drop-at}
use Rattle.pb_forms.proofs.forms.items.Goals as goal

pub loop-item-preserved : goal.loop-item-preserved
loop-item-preserved c =
    let l = c.loop-item in
    let items = c.args.items.now in
    let i = l.item-index in
    let e = c.item-item.result in
    let rest = drop (i + 1) items in
    let kinds = l.kinds.items in
    let before = option_map fault_view l.unfit in
    let next : drop i items ≡ e ∷ rest = drop-at items i e c.loop-item-test.true c.item-item.is in
    record {
      faults = l.invariant.faults ∙ ap (λ is. first before (part_faults_in is)) next
          ∙ fault-turn before (part_fault e) (part_faults_in rest) (option_map fault_view c.first_of-unfit.result) (c.first_of-unfit.ensures ∙ ap (first before) c.part_unfit.ensures);
      kinds = l.invariant.kinds ∙ ap (λ is. joined_onto kinds (joined_in is)) next
          ∙ ap (λ k. joined_onto kinds (join k (joined_in rest))) (sym c.in_ok-clone.ensures.cases) ∙ sym (onto-last kinds c.in_ok-clone.field-0 (joined_in rest))
          ∙ ap (λ ks. joined_onto ks (joined_in rest)) (sym c.in_ok-push.ensures.items);
    }
