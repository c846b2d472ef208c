use Rattle.std.proofs.Common.{List, ap, sym, ◌∙◌}
use Rattle.pb_kind.specs.KindView.{slots_view}
use Rattle.pb_kind.proofs.KindLemmas.{SlotEntry}
use Rattle.pb_lattice.specs.Bulk.{pairs_view}
use Rattle.pb_lattice.specs.Trees.{append_slots}
use Rattle.pb_lattice.proofs.Building.{Pair, append_none, one_more}
use Rattle.pb_lattice.proofs.bulk.pairs_of.Goals as goal

pub loop-name-preserved : goal.loop-name-preserved
loop-name-preserved c =
    let l = c.loop-name in
    let left = c.next.new.self in
    let p : Pair = (c.in-Some.name, c.in-Some.slot) in
    ap (λ (ps : List Pair). append_slots (pairs_view ps) (slots_view left)) c.in_ok-push.ensures.items ∙ one_more l.pairs.items p left
    ∙ ap (λ (es : List SlotEntry). append_slots (pairs_view l.pairs.items) (slots_view es)) (sym c.in-Some.ensures.steps) ∙ l.invariant

pub returns : goal.returns
returns c =
    let l = c.loop-name in
    sym (append_none (pairs_view l.pairs.items)) ∙ ap (λ (es : List SlotEntry). append_slots (pairs_view l.pairs.items) (slots_view es)) (sym c.in-None.ensures.steps.0) ∙ l.invariant
