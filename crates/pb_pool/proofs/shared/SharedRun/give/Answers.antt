use Rattle.std.proofs.Common.{◌≡◌, ◌+◌, ap, arith}
use Rattle.std.proofs.lemmas.List.Sums.{count_by-le-length}
use Rattle.pb_executor.specs.States.{RunState}
use Rattle.pb_executor.proofs.Turns.{given_longer}
use Rattle.pb_pool.specs.Kept.{IsKept, is_give}
use Rattle.pb_pool.specs.Seats.{calls_of_given}
use Rattle.pb_pool.proofs.Keeps.{given_count, kept_given}
use Rattle.pb_pool.proofs.shared.SharedRun.give.Goals as goal

pub count_give-requires : goal.count_give-requires
count_give-requires g c =
    let a = c.self.inside in
    let j = c.args.job in
    let e = c.in_ok-answered.ensures in
    let longer = given_longer a.run c.give.new.self j.host j.ticket c.args.answers c.in_ok-answered.answered e.given in
    omega (arith, c.self.invariant.given, count_by-le-length is_give a.run.history, longer, e.few)

pub count_calls-requires : goal.count_calls-requires
count_calls-requires g c =
    let a = c.self.inside in
    let j = c.args.job in
    let e = c.in_ok-answered.ensures in
    let count = given_count a.run c.give.new.self j.host j.ticket c.args.answers c.in_ok-answered.answered e.given in
    let budget = ap (λ (r : RunState). r.accepted.budget) e.given.same in
    omega (arith, c.self.invariant.handed, count, e.sound.within, budget, c.budget-budget.ensures, c.calls_of_given.ensures)

is_kept : (g : _) (c : goal.After-count_calls g) → IsKept g.P.Rule.of g.P.Rule.told c.self.inside.opened c.count_calls.new.book.total c.count_give.new.book.total c.give.new.self
is_kept g c =
    let a = c.self.inside in
    let j = c.args.job in
    let e = c.in_ok-answered.ensures in
    let answered = c.in_ok-answered.answered in
    let more : c.count_calls.new.book.total ≡ a.calls.total + calls_of_given answered = omega (arith, c.count_calls.ensures.total, c.calls_of_given.ensures) in
    kept_given g.P.Rule.of g.P.Rule.told a.opened a.calls.total a.gives.total a.run c.give.new.self c.self.invariant e.given.same e.sound j.host j.ticket c.args.answers answered c.count_calls.new.book.total c.count_give.new.book.total e.given c.requires more c.count_give.ensures.total

pub invariant_of-self-2 : goal.invariant_of-self-2
invariant_of-self-2 g c = is_kept g c

pub returns-clause-few : goal.returns-clause-few
returns-clause-few g c =
    let k = is_kept g c in record {
      run = c.give.new.self;
      opened = c.self.inside.opened;
      ruled = k.ruled;
      within = omega (arith, c.count_calls.ensures.bound, k.handed, k.ruled.sound.within);
    }
