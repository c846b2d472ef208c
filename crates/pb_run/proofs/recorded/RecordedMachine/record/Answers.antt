use Rattle.std.proofs.Common.{◌≡◌, ◌++◌, ◌∷◌, [], length, map, refl, ap, subst, ◌∙◌, arith}
use Rattle.pb_finish.specs.Answers.{answer_data}
use Rattle.pb_jobs.specs.Faults.{CannotGive, GivesPast}
use Rattle.pb_jobs.specs.Machines.{GivesAs}
use Rattle.pb_run.specs.declared.event.Event.TheVariants.{Give}
use Rattle.pb_run.proofs.Faults.{give_faults}
use Rattle.pb_run.proofs.Records.{gives_by, stays_by}
use Rattle.pb_run.proofs.recorded.RecordedMachine.record.Goals as goal

pub returns-in-Ok-clause-gives : goal.returns-in-Ok-clause-gives
returns-in-Ok-clause-gives c =
    let e = c.in-Ok.ensures in
    let k = c.args.host in
    let history = c.push_reserved.ensures.items ∙ ap (λ xs. xs ++ Give k c.args.answers ∷ []) c.reserve.ensures.items in
    let place : c.len-ticket.result ≡ length c.args.self.now.history.items = omega (arith, c.len-ticket.ensures, c.reserve.ensures.len, c.args.self.now.history.ok) in
    let gives = subst (λ ys. GivesAs k (map answer_data ys) c.in-Ok.answered c.args.self.now.machine c.give.new.self) c.deref.ensures.value e.gives in
    rw c.given_of.ensures (gives_by c.args.self.now _ k c.args.out c.args.answers c.in-Ok.answered c.len-ticket.result c.requires.going c.requires.going history place c.requires.out gives e.tickets e.counts)

pub returns-in-Err-give-clause-err : goal.returns-in-Err-give-clause-err
returns-in-Err-give-clause-err c = stays_by c.args.self.now _ c.reserve.ensures.items refl c.in-Err-give.ensures.err

pub returns-in-Err-give-clause-faults : goal.returns-in-Err-give-clause-faults
returns-in-Err-give-clause-faults c =
    let m = c.args.self.now in
    let k = c.args.host in
    let e = c.in-Err-give.ensures in
    give_faults m k c.args.out c.args.answers.items c.requires.going c.requires.out _
    (λ there. subst (λ ys. CannotGive k (map answer_data ys) m.machine) c.deref.ensures.value (e.there there))
    (λ full. subst (λ ys. GivesPast k (map answer_data ys) m.machine) c.deref.ensures.value (e.full full))
