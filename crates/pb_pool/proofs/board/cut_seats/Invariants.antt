use Rattle.std.proofs.Common.{◌≡◌, ◌+◌, replicate}
use Rattle.pb_pool.specs.Seats.{none}
use Rattle.pb_pool.proofs.board.cut_seats.Given as goal

abbrev pub invariant-loop-seat : goal.invariant-loop-seat
invariant-loop-seat g l = record {
  calls : (l.calls.parts + l._seat ≡ l.count) × (l.calls.amount ≡ 0);
  gives : (l.gives.parts + l._seat ≡ l.count) × (l.gives.amount ≡ 0);
  seats : l.seats.items ≡ replicate l._seat none;
}
