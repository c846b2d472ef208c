use Rattle.pb_language.specs.Evaluation.{eval_parts}
use Rattle.pb_language.specs.Expansion.{parts_expanded}
use Rattle.pb_language.specs.Start.{eval_arguments}
use Rattle.pb_start.proofs.Worth.{arguments_worth}
use Rattle.pb_sig.specs.ModuleView.{shared_view}
use Rattle.pb_syntax.specs.ExprView.{parts_view}
use Rattle.pb_start.proofs.Passed.{made-call}
use Rattle.pb_value.specs.View.{view}
use Rattle.pb_start.proofs.action.made.Goals as goal

pub returns-in_ok-record_of-in-Call : goal.returns-in_ok-record_of-in-Call
returns-in_ok-record_of-in-Call g c = λ x h.
    let w = g.V.Vars.world c.args.vars.now in
    let ps = parts_expanded (g.V.Vars.trees c.args.vars.now) (parts_view c.in-Call.arguments.entries) in
    let qs = (shared_view c.in-Call.«module»).params in
    made-call (eval_arguments w qs ps) (eval_parts w ps) (view c.in_ok-record_of-in-Call.field-0) x (arguments_worth w qs ps) c.in_ok-record_of-in-Call.ensures (rw c.in-Call.is at h)
