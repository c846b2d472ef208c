use Rattle.std.proofs.Common.{refl}
use Rattle.pb_machine.specs.Steps.{end_target}
use Rattle.pb_machine.proofs.Leads.{steps_lead_on}
use Rattle.pb_machine.proofs.Targets.{row_plain}
use Rattle.pb_machine.proofs.steps_lead_on.Goals as goal

pub returns-clause-on : goal.returns-clause-on
returns-clause-on c = steps_lead_on

pub returns-clause-begin : goal.returns-clause-begin
returns-clause-begin c = λ row. row_plain row 1 (end_target row) refl
