use Rattle.std.proofs.Common.{◌≡◌, ◌&&◌, is_none, true, refl, ◌∙◌}
use Rattle.pb_language.specs.Cases.{no_sets, sets}
use Rattle.pb_language.specs.Tables.{writes_below}
use Rattle.pb_kind.specs.KindView.{kind_view, slots_view}
use Rattle.pb_find.specs.declared.find.Find.{Find}
use Rattle.pb_find.proofs.Grows.{one_written}
use Rattle.pb_find.proofs.Writes.{both_hold, first_fails, none_told}
use Rattle.pb_find.proofs.find.with_write.Goals.{then-is_same, else-is_same, then-is_settled, else-is_settled}
use Rattle.pb_find.proofs.find.with_write.Goals as goal

pub returns : goal.returns
returns c =
    let old = c.args.before in
    let slot = c.in_ok-slot.slot in
    let below = writes_below (sets c.args.name.now true (kind_view c.args.kind.now) no_sets) (slots_view c.args.view.now.entries) in
    let now : Find = record { fault = old.fault; next = c.put.new.slots; is_settled = c.if-is_settled.is_settled; is_same = c.if-is_same.is_same } in
    let settled : c.if-is_settled.is_settled ≡ old.is_settled && below = elim c.if-is_settled.branch [
      | then-is_settled w ↦ both_hold old.is_settled below c.if-is_settled.is_settled w.if-is_settled.true (w.is_settled-is ∙ w.is_known-is_settled.ensures)
      | else-is_settled w ↦ first_fails old.is_settled below c.if-is_settled.is_settled w.if-is_settled.false w.is_settled-is
    ] in
    let same : c.if-is_same.is_same ≡ old.is_same && is_none slot = elim c.if-is_same.branch [
      | then-is_same w ↦ both_hold old.is_same (is_none slot) c.if-is_same.is_same w.if-is_same.true (w.is_same-is ∙ none_told slot w.is_none-is_same.result w.is_none-is_same.ensures)
      | else-is_same w ↦ first_fails old.is_same (is_none slot) c.if-is_same.is_same w.if-is_same.false w.is_same-is
    ] in
    let known = rw c.find.ensures at c.in_ok-slot.ensures in
    one_written c.args.name.now (kind_view c.args.kind.now) (slots_view c.args.view.now.entries) old now slot below c.requires.kind c.requires.next known c.in_ok-put.ensures refl refl settled same
