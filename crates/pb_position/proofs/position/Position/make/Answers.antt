use Rattle.std.proofs.Common.{◌∙◌, arith}
use Rattle.pb_position.proofs.Made.{one_more_is_made}
use Rattle.pb_position.proofs.position.Position.make.Goals as goal

pub loop-each-preserved : goal.loop-each-preserved
loop-each-preserved c = record {
  moves = one_more_is_made c.args.moves.now c.loop-each.each-index _ c.args.self.now c.loop-each.self c.make_one.new.self (omega arith) c.loop-each.invariant.moves c.in_ok-make_one.ensures.host;
  handlers = c.make_one.ensures.handlers ∙ c.loop-each.invariant.handlers;
}
