use Rattle.std.proofs.Common.{refl}
use Rattle.pb_semantics.proofs.Bools.{and-left}
use Rattle.pb_language.specs.Cases.{is_lawful_shape}
use Rattle.pb_kind.specs.KindView.{kind_view}
use Rattle.pb_sig.proofs.Laws.{is_shape-lawful}
use Rattle.pb_sig.proofs.declared.DeclaredModule.ok_shape.Goals as goal

pub returns-clause-gives : goal.returns-clause-gives
returns-clause-gives c = refl

pub returns-clause-lawful : goal.returns-clause-lawful
returns-clause-lawful c =
    let m = c.args.self.now in
    is_shape-lawful (kind_view m.ok) (and-left (is_lawful_shape (kind_view m.ok)) (is_lawful_shape (kind_view m.failure)) m.lawful.lawful)

pub returns-clause-plain : goal.returns-clause-plain
returns-clause-plain c =
    let m = c.args.self.now in
    and-left (is_lawful_shape (kind_view m.ok)) (is_lawful_shape (kind_view m.failure)) m.lawful.lawful
