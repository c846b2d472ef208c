use Rattle.std.proofs.Common.{refl}
use Rattle.pb_semantics.proofs.Bools.{and-right}
use Rattle.pb_language.specs.Cases.{is_lawful_shape}
use Rattle.pb_kind.specs.KindView.{kind_view}
use Rattle.pb_sig.proofs.Laws.{is_failure_shape-lawful}
use Rattle.pb_sig.proofs.declared.DeclaredModule.fail_shape.Goals as goal

pub returns-clause-gives : goal.returns-clause-gives
returns-clause-gives c = refl

pub returns-clause-lawful : goal.returns-clause-lawful
returns-clause-lawful c =
    let m = c.args.self.now in
    is_failure_shape-lawful (kind_view m.failure) (and-right (is_lawful_shape (kind_view m.ok)) (is_lawful_shape (kind_view m.failure)) m.lawful.lawful) m.lawful.message

pub returns-clause-plain : goal.returns-clause-plain
returns-clause-plain c =
    let m = c.args.self.now in
    and-right (is_lawful_shape (kind_view m.ok)) (is_lawful_shape (kind_view m.failure)) m.lawful.lawful
