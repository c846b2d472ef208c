use Rattle.std.proofs.Common.{◌≡◌, ◌+◌, ap, arith}
use Rattle.pb_executor.specs.States.{RunState}
use Rattle.pb_pool.specs.Kept.{IsKept}
use Rattle.pb_pool.specs.Seats.{calls_of_taken}
use Rattle.pb_pool.proofs.Keeps.{kept_taken, taken_count}
use Rattle.pb_pool.proofs.shared.SharedRun.take.Goals as goal

pub count_calls-requires : goal.count_calls-requires
count_calls-requires g c =
    let a = c.self.inside in
    let e = c.in_ok-taken.ensures in
    let count = taken_count a.run c.take.new.self c.in_ok-taken.taken e.taken in
    let budget = ap (λ (r : RunState). r.accepted.budget) e.taken.same in
    omega (arith, c.self.invariant.handed, count, e.sound.within, budget, c.budget-budget.ensures, c.calls_of_taken.ensures)

is_kept : (g : _) (c : goal.After-count_calls g) → IsKept g.P.Rule.of g.P.Rule.told c.self.inside.opened c.count_calls.new.book.total c.self.inside.gives.total c.take.new.self
is_kept g c =
    let a = c.self.inside in
    let t = c.in_ok-taken.taken in
    let e = c.in_ok-taken.ensures in
    let more : c.count_calls.new.book.total ≡ a.calls.total + calls_of_taken t = omega (arith, c.count_calls.ensures.total, c.calls_of_taken.ensures) in
    kept_taken g.P.Rule.of g.P.Rule.told a.opened a.calls.total a.gives.total a.run c.take.new.self c.self.invariant e.taken.same e.sound t c.count_calls.new.book.total e.taken more

pub invariant_of-self-2 : goal.invariant_of-self-2
invariant_of-self-2 g c = is_kept g c

pub returns-clause-few : goal.returns-clause-few
returns-clause-few g c =
    let k = is_kept g c in record {
      run = c.take.new.self;
      opened = c.self.inside.opened;
      ruled = k.ruled;
      within = omega (arith, c.count_calls.ensures.bound, k.handed, k.ruled.sound.within);
    }
