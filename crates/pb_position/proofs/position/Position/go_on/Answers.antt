use Rattle.pb_position.proofs.Ends.{goes_on_where_it_failed, goes_on_where_it_is_done}
use Rattle.pb_position.proofs.position.Position.go_on.Goals as goal

pub returns-in_ok-arrive-clause-host : goal.returns-in_ok-arrive-clause-host
returns-in_ok-arrive-clause-host c =
    goes_on_where_it_failed c.args.steps.now c.args.step.now c.args.end c.args.self.now c.in_ok-position.position c.mark.new.self c.arrive.new.self c.in_ok-position.ensures.same c.if-has_failed.true
    c.mark.ensures.marked c.mark.ensures.rest c.in_ok-arrive.ensures.host

pub returns-in_ok-arrive-2-clause-host : goal.returns-in_ok-arrive-2-clause-host
returns-in_ok-arrive-2-clause-host c =
    goes_on_where_it_is_done c.args.steps.now c.args.step.now c.args.end c.args.self.now c.in_ok-position.position c.mark.new.self c.arrive-else-has_failed.new.self c.in_ok-position.ensures.same
    c.if-has_failed.false c.mark.ensures.marked c.mark.ensures.rest c.in_ok-arrive-2.ensures.host
