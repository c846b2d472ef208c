use Rattle.std.proofs.Common.{◌∙◌, ap, refl, sym}
use Rattle.pb_executor.specs.States.{RunState}
use Rattle.pb_pool.specs.Seats.{given_sum, handed_sum}
use Rattle.pb_pool.proofs.Keeps.{kept_stopped}
use Rattle.pb_pool.proofs.pool.closed.Goals as goal

pub returns : goal.returns
returns g c =
    let k = c.in-Ok.ensures.kept in
    let e = c.stopped.ensures in
    let old = c.in-Ok.run' in
    let handed = handed_sum c.args.seats.items in
    let given = given_sum c.args.seats.items in
    let same = e.history ∙ ap (λ xs. record old { history = xs }) (sym (ap (λ (r : RunState). r.history) e.history)) in (
      record {
        over = e.over;
        opened = k.0;
        handed = handed;
        given = given;
        kept = kept_stopped g.P.Rule.of g.P.Rule.told k.0 handed given old c.stopped.result k.1 same e.sound e.history;
      },
      refl,
    )
