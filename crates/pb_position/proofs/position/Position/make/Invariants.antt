use Rattle.std.proofs.Common.{◌≡◌, take}
use Rattle.pb_position.specs.Calls.{Moves}
use Rattle.pb_position.specs.Positions.{handlers_of}
use Rattle.pb_position.proofs.position.Position.make.Given as goal

abbrev pub invariant-loop-each : goal.invariant-loop-each
invariant-loop-each l = record {
  moves : Moves (take l.each-index l.moves) l.initial.self l.self;
  handlers : handlers_of l.self ≡ handlers_of l.initial.self;
}
