use Rattle.std.proofs.Common.{refl}
use Rattle.pb_language.specs.Give.{until_of, judged_world, ended_with}
use Rattle.pb_finish.specs.Endings.{IsFlag}
use Rattle.pb_finish.specs.Results.{result_view}
use Rattle.pb_finish.specs.declared.statuses.FinalResult.{FinalResult}
use Rattle.pb_finish.proofs.Statused.{ended-flag}
use Rattle.pb_finish.proofs.statuses.ask_until.Goals as goal

pub returns-in_ok-holds-in-Some : goal.returns-in_ok-holds-in-Some
returns-in_ok-holds-in-Some g c = λ t d.
    let w = g.V.Vars.world c.args.vars.now in
    let o = result_view c.args.item in
    let flag : IsFlag c.in_ok-holds-in-Some.holds (until_of (judged_world w t o c.args.changed c.args.failed) t.attempts) =
    rw (d.attempts, c.in-Some.is, ← c.in_ok-fields-in-Some.ensures, ← c.deref.ensures.value) (c.in_ok-holds-in-Some.ensures t d) in
    let e : FinalResult = record { shape = c.args.item.shape; fields = c.in_ok-fields-in-Some.fields; assigns = c.args.item.assigns; changed = c.args.changed; failed = c.args.failed; holds = c.in_ok-holds-in-Some.holds } in
    ended-flag e (until_of (judged_world w t o c.args.changed c.args.failed) t.attempts) c.in_ok-holds-in-Some.holds (λ u. ended_with o c.args.changed c.args.failed u) flag (rw c.in_ok-fields-in-Some.ensures refl)
