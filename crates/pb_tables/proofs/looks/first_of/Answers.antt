use Rattle.std.proofs.Common.{◌<◌, length, rules}
use Rattle.std.proofs.lemmas.Option.{slice_get-get_or}
use Rattle.pb_tables.proofs.Playing.{has_first}
use Rattle.pb_tables.proofs.looks.first_of.Goals as goal

pub bounds-stage-host : goal.bounds-stage-host
bounds-stage-host c = has_first c.args.stage.now c.args.host c.requires.host

pub offset_bounds-stage-host : goal.offset_bounds-stage-host
offset_bounds-stage-host c =
    let lt : c.args.host < length c.args.stage.now.firsts.now = has_first c.args.stage.now c.args.host c.requires.host in
    search rules

pub returns : goal.returns
returns c = slice_get-get_or c.args.stage.now.firsts.now c.args.host 0 (has_first c.args.stage.now c.args.host c.requires.host)
