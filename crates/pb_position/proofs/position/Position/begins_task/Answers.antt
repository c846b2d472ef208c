use Rattle.std.proofs.Common.{Option, ℕ, sym, subst}
use Rattle.pb_position.specs.Calls.{BeginsTask}
use Rattle.pb_position.proofs.Marks.{handler_begins_by_its_mark}
use Rattle.pb_position.proofs.position.Position.begins_task.Goals as goal

pub returns-in-Some-clause-host : goal.returns-in-Some-clause-host
returns-in-Some-clause-host c =
    subst (λ (h : Option ℕ). BeginsTask h c.args.self.now c.unmark.new.self c.unmark.result) (sym c.in-Some.is)
    (handler_begins_by_its_mark c.in-Some.number c.args.self.now c.unmark.new.self c.unmark.ensures.cleared c.unmark.ensures.rest c.unmark.result c.unmark.ensures.was)
