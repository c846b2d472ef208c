use Rattle.std.proofs.Common.{ap₂, refl}
use Rattle.pb_language.specs.Machine.{give}
use Rattle.pb_run.proofs.Follows.{follows_give, follows_no_give, follows_stopped}
use Rattle.pb_run.proofs.recorded.RecordedMachine.follow_give.Goals as goal

pub returns-then-self-clause-follows : goal.returns-then-self-clause-follows
returns-then-self-clause-follows c = follows_stopped c.args.self.now _ c.if-self.true

pub returns-in_default-clause-follows : goal.returns-in_default-clause-follows
returns-in_default-clause-follows c = follows_no_give c.args.self.now c.args.host _ _ refl c.in_default.ensures

pub returns-in-Ok-clause-follows : goal.returns-in-Ok-clause-follows
returns-in-Ok-clause-follows c =
    let e = c.in_ok-copies.ensures in
    follows_give c.args.self.now c.record.new.self c.args.host c.in-Some.ticket c.in_ok-copies.copies _ c.in-Ok._given (ap₂ (λ xs ws. (give c.args.host xs, ws)) e.same e.whys) c.if-self.false c.in-Some.ensures c.in-Ok.ensures.gives
