use Rattle.std.proofs.Common.{◌<◌, length, refl, sym, arith}
use Rattle.std.proofs.lemmas.List.{length-map}
use Rattle.std.proofs.lemmas.Result.{on_ok_weaker}
use Rattle.pb_tables.specs.Listed.{lasting_lists, lasting_there}
use Rattle.pb_tables.proofs.Putting.{put_past, put_there}
use Rattle.pb_tables.proofs.laters.put.Goals as goal

pub returns-in-Some : goal.returns-in-Some
returns-in-Some c =
    let os = c.args.laters.now.items in
    let within : c.args.play < length os = omega (arith, c.in-Some.ensures.variant.0 refl, c.args.laters.now.ok) in
    on_ok_weaker c.push_last.result (λ put. put_there os c.args.play c.in-Some.hosts.now c.push_last.new.hosts c.args.lasting within c.in-Some.ensures.value put) c.push_last.ensures

pub returns-in-None : goal.returns-in-None
returns-in-None c =
    let os = c.args.laters.now.items in
    let size = length-map os (λ o. lasting_there o) in
    sym (put_past (lasting_lists os) c.args.play c.args.lasting (omega (arith, size, c.in-None.ensures.item)))
