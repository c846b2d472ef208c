use Rattle.std.proofs.Common.{None, ◌∙◌}
use Rattle.std.proofs.lemmas.Result.{err_from_is_err_and}
use Rattle.pb_core.proofs.Tickets.{hosts_stay}
use Rattle.pb_jobs.specs.Machines.{kept_in}
use Rattle.pb_jobs.proofs.Seen.{kept_stepped}
use Rattle.pb_language.specs.Machine.{give}
use Rattle.pb_jobs.proofs.machine.Machine.leave.Goals as goal

pub invariant_of-self-2 : goal.invariant_of-self-2
invariant_of-self-2 c =
    let x = c.args.self.now in record {
      each_host = x.each_host;
      each_slot = x.each_slot;
      each_constant = x.each_constant;
      each_active = tt;
      each_place = hosts_stay x.core c.leave.new.self c.args.host None c.in_ok-leave.ensures.tickets ∙ x.each_place;
      each_count = x.each_count;
    }

pub returns-clause-leaves : goal.returns-clause-leaves
returns-clause-leaves c = λ reading s is w xs left.
    let x = c.args.self.now in record {
      reading = reading;
      machine = record {
        kept = kept_stepped (kept_in x) x.facts c.leave.new.self reading reading s (give c.args.host xs) is.kept is.kept.reads (c.in_ok-leave.ensures.leaves reading s is.kept.core w xs left) (hosts_stay x.core c.leave.new.self c.args.host None c.in_ok-leave.ensures.tickets);
        batch = tt;
      };
    }

pub returns-in_err-leave-clause-there : goal.returns-in_err-leave-clause-there
returns-in_err-leave-clause-there c =
    let p = err_from_is_err_and c.from_residual.result c.from_residual.ensures.1 in
    rw (p.1, p.2) (λ e. c.in_err-leave.ensures.there e)

pub returns-in_err-leave-clause-full : goal.returns-in_err-leave-clause-full
returns-in_err-leave-clause-full c =
    let p = err_from_is_err_and c.from_residual.result c.from_residual.ensures.1 in
    rw (p.1, p.2) (λ e. c.in_err-leave.ensures.full e)
