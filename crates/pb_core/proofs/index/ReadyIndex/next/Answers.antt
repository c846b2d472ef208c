use Rattle.std.proofs.Common.{true, false, sym, ◌∙◌}
use Rattle.pb_core.proofs.Indexes.{next_empty, next_lowest}
use Rattle.pb_core.proofs.index.ReadyIndex.next.Goals as goal

pub returns-in_default : goal.returns-in_default
returns-in_default c = λ hosts i. next_empty hosts c.args.forks c.args.is_linear (c.in_default.ensures hosts i.waiting)

pub returns-then-can_start : goal.returns-then-can_start
returns-then-can_start c = λ hosts i. next_lowest hosts c.args.forks c.in-Some.host c.in-Some.place c.args.is_linear true (c.in-Some.ensures hosts i.waiting) (sym c.if-can_start.true ∙ c.can_start.ensures hosts i)

pub returns-else-can_start : goal.returns-else-can_start
returns-else-can_start c = λ hosts i. next_lowest hosts c.args.forks c.in-Some.host c.in-Some.place c.args.is_linear false (c.in-Some.ensures hosts i.waiting) (sym c.if-can_start.false ∙ c.can_start.ensures hosts i)
