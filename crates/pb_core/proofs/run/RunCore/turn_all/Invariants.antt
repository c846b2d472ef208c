use Rattle.std.proofs.Common.{◌≡◌, ◌<◌, ◌≤◌, ◌+◌}
use Rattle.pb_core.specs.Cores.{batches_left, tickets_of}
use Rattle.pb_core.specs.Events.{TurnsTo}
use Rattle.pb_core.specs.Formers.{before}
use Rattle.pb_core.proofs.run.RunCore.turn_all.Given as goal

abbrev pub invariant-loop-self : goal.invariant-loop-self
invariant-loop-self g l = record {
  turns : TurnsTo l.turns l.fn.self l.self;
  some : 0 < l.turns;
  left : l.turns + batches_left l.self ≤ batches_left l.fn.self;
  tickets : tickets_of l.self ≡ tickets_of l.fn.self;
  back : before l.current l.index l.formers.items l.self ≡ l.fn.self;
}

abbrev pub decreases-loop-self : goal.decreases-loop-self
decreases-loop-self g l = batches_left l.self
