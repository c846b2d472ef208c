use Rattle.std.proofs.Common.{◌∙◌}
use Rattle.pb_forms.proofs.AnsweredCases.{record-turn}
use Rattle.pb_forms.proofs.teach.record_above.Goals as goal

pub loop-case-preserved : goal.loop-case-preserved
loop-case-preserved c =
    c.loop-case.invariant
    ∙ record-turn c.loop-case.records.items c.push.new.self.items c.args.cases.now c.loop-case.case-index c.case-item.result c.in_ok-record.record
    c.loop-case-test.true c.case-item.is c.in_ok-record.ensures.cases c.in_ok-push.ensures.items
