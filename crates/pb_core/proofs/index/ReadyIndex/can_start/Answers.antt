use Rattle.pb_core.proofs.Indexes.{start_free, start_full, start_linear}
use Rattle.pb_core.proofs.index.ReadyIndex.can_start.Goals as goal

pub returns-then-len-forks : goal.returns-then-len-forks
returns-then-len-forks c = λ hosts i. start_full c.args.self.now hosts i c.args.forks c.args.place c.len.result c.len.ensures.len c.args.is_linear c.if-len-forks.true

pub returns-then-not-is_linear : goal.returns-then-not-is_linear
returns-then-not-is_linear c = λ hosts i. start_free c.args.self.now hosts i c.args.forks c.args.place c.len.result c.len.ensures.len c.args.is_linear c.if-len-forks.false c.if-not-is_linear.true

pub returns : goal.returns
returns c = λ hosts i.
    start_linear c.args.self.now hosts i c.args.forks c.args.place c.len.result c.len.ensures.len c.args.is_linear c.has_none_behind.result c.if-len-forks.false c.if-not-is_linear.false (c.has_none_behind.ensures hosts i)
