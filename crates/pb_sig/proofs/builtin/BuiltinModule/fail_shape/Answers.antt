use Rattle.std.proofs.Common.{refl}
use Rattle.pb_kind.specs.KindView.{kind_view}
use Rattle.pb_sig.proofs.Laws.{is_failure_shape-lawful}
use Rattle.pb_sig.proofs.builtin.BuiltinModule.fail_shape.Goals as goal

pub returns-clause-gives : goal.returns-clause-gives
returns-clause-gives c = refl

pub returns-clause-lawful : goal.returns-clause-lawful
returns-clause-lawful c = is_failure_shape-lawful (kind_view c.args.self.now.failure) c.args.self.now.lawful_failure c.args.self.now.message

pub returns-clause-plain : goal.returns-clause-plain
returns-clause-plain c = c.args.self.now.lawful_failure
