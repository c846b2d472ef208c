use Rattle.std.proofs.Common.{◌∙◌, sym, inl, inr, ⊎_elim}
use Rattle.std.proofs.lemmas.Result.{on_ok_weaker}
use Rattle.pb_reads.specs.Reached.{names_in}
use Rattle.pb_route.specs.Station.{station_task}
use Rattle.pb_steps.specs.Uses.{Among, Uses}
use Rattle.pb_steps.proofs.Used.{adds-both}
use Rattle.pb_steps.proofs.nodes.add_used.Goals as goal

pub returns : goal.returns
returns c =
    let t = station_task c.args.station.now in
    on_ok_weaker c.add_all-2.result
    (λ b. adds-both (Among (names_in c.in_ok-reads.reads)) (Among (names_in c.in_ok-writes.writes)) (Uses t) (names_in c.args.names.now) (names_in c.add_all.new.names) (names_in c.add_all-2.new.names)
    (λ n. ⊎_elim (λ r. inl (c.in_ok-reads.ensures.whole n r)) (λ w. inr (c.in_ok-writes.ensures n ∙ w))) (λ n p. inl (c.in_ok-reads.ensures.sound n p)) (λ n q. inr (sym (c.in_ok-writes.ensures n) ∙ q))
    c.in_ok-add_all.ensures b)
    c.add_all-2.ensures
