use Rattle.std.proofs.Common.{◌≡◌, true, subst, sym}
use Rattle.std.proofs.lemmas.Result.{IfOk-weaker}
use Rattle.pb_semantics.specs.Below.{below}
use Rattle.pb_semantics.specs.Well.{Well}
use Rattle.pb_semantics.proofs.JoinAbove.{joins_above}
use Rattle.pb_semantics.proofs.JoinLeast.{joins_least}
use Rattle.pb_semantics.proofs.JoinWell.{joins_well}
use Rattle.pb_kind.specs.Words.{kind_view}
use Rattle.pb_lattice.proofs.kind.KindLattice.join.Goals as goal

pub returns-clause-stands : goal.returns-clause-stands
returns-clause-stands c =
    let k = kind_view c.args.self.now in
    let m = kind_view c.args.other.now in
    IfOk-weaker c.join.result _ _
    (λ j is. subst Well (sym is) (joins_well k m c.requires.first c.requires.second)) c.join.ensures

pub returns-clause-above : goal.returns-clause-above
returns-clause-above c =
    let k = kind_view c.args.self.now in
    let m = kind_view c.args.other.now in
    let above = joins_above k m c.requires.first c.requires.second in
    IfOk-weaker c.join.result _ _
    (λ j is. (subst (λ h. below k h ≡ true) (sym is) above.0, subst (λ h. below m h ≡ true) (sym is) above.1)) c.join.ensures

pub returns-clause-least : goal.returns-clause-least
returns-clause-least c =
    let k = kind_view c.args.self.now in
    let m = kind_view c.args.other.now in
    IfOk-weaker c.join.result _ _
    (λ j is v _ h i. subst (λ h. below h v ≡ true) (sym is)
    (joins_least k m v c.requires.first c.requires.second h i)) c.join.ensures
