use Rattle.std.proofs.Common.{◌≡◌, ◌+◌, ◌∷◌, drop, string_bytes, subst, arith}
use Rattle.pb_kind.specs.KindView.{kind_view}
use Rattle.pb_language.specs.Cases.{with_sets, set_spot}
use Rattle.pb_language.specs.Scope.{with_spot}
use Rattle.pb_language.specs.Wells.{WellSets}
use Rattle.pb_semantics.specs.Kind.{slot_at}
use Rattle.pb_lattice.specs.Environments.{exit_of}
use Rattle.pb_syntax.proofs.Left.{drop-at}
use Rattle.pb_transfer.specs.Written.{AreSame, sets_view, where_led}
use Rattle.pb_transfer.proofs.Same.{kept_through, led_sets, same_through, set_first}
use Rattle.pb_transfer.proofs.written.with_sets.Goals as goal

pub returns-in_err-at-clause-kept : goal.returns-in_err-at-clause-kept
returns-in_err-at-clause-kept c = kept_through c.args.space.now c.loop-set.space c.with_set.new.space c.loop-set.invariant.kept c.with_set.ensures.kept

pub loop-set-preserved : goal.loop-set-preserved
loop-set-preserved c =
    let x = c.set-item.result in
    let i = c.loop-set.set-index in
    let all = c.args.sets.now in
    let rest = drop (i + 1) all in
    let left : drop i all ≡ x ∷ rest = drop-at all i x (omega arith) c.set-item.is in
    let well : WellSets (sets_view (x ∷ rest)) = subst (λ xs. WellSets (sets_view xs)) left c.loop-set.invariant.well in
    let before = exit_of c.loop-set.space c.loop-set.at in
    let n = string_bytes x.name.value in
    let k = kind_view x.kind in
    let step = where_led (λ ss. with_spot n (set_spot x.is_certain (slot_at n ss) k) ss) before in
    let after = exit_of c.with_set.new.space c.in_ok-at.at in
    let r = with_sets (sets_view rest) in
    let here : AreSame (where_led r after) (where_led r step) = led_sets (sets_view rest) after step c.in_ok-at.ensures.same in
    let was : AreSame (where_led (with_sets (sets_view (x ∷ rest))) before) (where_led (with_sets (sets_view all)) (exit_of c.args.space.now c.args.at)) = subst (λ xs. AreSame (where_led (with_sets (sets_view xs)) before) (where_led (with_sets (sets_view all)) (exit_of c.args.space.now c.args.at))) left c.loop-set.invariant.same in
    record {
      kept = kept_through c.args.space.now c.loop-set.space c.with_set.new.space c.loop-set.invariant.kept c.with_set.ensures.kept;
      stands = c.in_ok-at.ensures.stands;
      well = well.1;
      same = same_through (where_led r after) (where_led r step) (where_led (with_sets (sets_view all)) (exit_of c.args.space.now c.args.at)) here (rw (set_first n x.is_certain k (sets_view rest) before) was);
    }
