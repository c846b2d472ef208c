use Rattle.std.proofs.Common.{◌∙◌, option_map}
use Rattle.pb_kind.specs.KindView.{kind_view}
use Rattle.pb_visit.specs.Visits.{env_of, task_there}
use Rattle.pb_visit.specs.declared.writes.Writes.{Writes}
use Rattle.pb_visit.proofs.Ends.{writes_are}
use Rattle.pb_visit.proofs.writes.written.Goals as goal

pub returns-clause-writes : goal.returns-clause-writes
returns-clause-writes g c =
    let w : Writes = record { going = c.in_ok-going.going; failing = c.in_ok-failing.failing; either = c.in_ok-either_kind.field-0; sets = c.in_ok-sets_there.field-0 } in
    writes_are (g.O.Outlook.setting c.args.outlook.now) (task_there c.args.visit.now) (env_of c.args.visit.now) (option_map (λ k. kind_view k.now) c.kind_of_loop-over.result) w
    (c.kind_of_loop-over.ensures ∙ c.in_ok-found.ensures.kind) c.in_ok-going.ensures c.in_ok-failing.ensures c.in_ok-sets_there.ensures
