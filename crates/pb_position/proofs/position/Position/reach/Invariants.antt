use Rattle.std.proofs.Common.{◌≡◌, suc, length, true}
use Rattle.pb_flow.specs.Ahead.{is_ahead}
use Rattle.pb_position.specs.Positions.{handlers_of}
use Rattle.pb_position.proofs.Along.{Goes, far}
use Rattle.pb_position.proofs.position.Position.reach.Given as goal

abbrev pub invariant-loop-to : goal.invariant-loop-to
invariant-loop-to l = record {
  ahead : is_ahead 0 (suc (length l.steps)) l.to ≡ true;
  goes : Goes l.steps l.fn.first l.fn.self l.to l.self;
  handlers : handlers_of l.self ≡ handlers_of l.fn.self;
}

abbrev pub decreases-loop-to : goal.decreases-loop-to
decreases-loop-to l = far (suc (length l.steps)) l.to
