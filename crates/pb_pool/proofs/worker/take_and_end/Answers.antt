use Rattle.std.proofs.Common.{◌≡◌, ap, subst, arith}
use Rattle.pb_pool.specs.Seats.{Counts, taken_more}
use Rattle.pb_pool.proofs.worker.take_and_end.Goals as goal

pub end-requires-clause-few : goal.end-requires-clause-few
end-requires-clause-few g c =
    let few = c.requires.few in
    let seat = subst (λ t. c.take.new.seat ≡ taken_more t c.args.seat.now) c.in-Job.is c.in_ok-taken.ensures.seat in
    (few.0, few.1, omega (arith, few.2, ap (λ (s : Counts). s.handed) seat))
