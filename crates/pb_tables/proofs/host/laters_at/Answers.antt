use Rattle.std.proofs.Common.{List, Option, Vec, Global, drop, map, length, ap, sym, ◌∙◌}
use Rattle.std.proofs.lemmas.Bool.{ltb-true}
use Rattle.std.specs.declared.sync.Arc.{Arc}
use Rattle.pb_language.specs.Tables.{first_laters}
use Rattle.pb_lattice.specs.Arena.{names_of}
use Rattle.pb_inventory.specs.Inventory.{inventory_view}
use Rattle.pb_hosts.specs.Tables.{host_names, laters_from, since_view}
use Rattle.pb_hosts.specs.declared.lasting.Lasting.{Lasting}
use Rattle.pb_tables.specs.Tabled.{laters_there}
use Rattle.pb_tables.proofs.HostTables.{first_there}
use Rattle.pb_tables.proofs.host.laters_at.Goals as goal

pub returns-in-Some-laters : goal.returns-in-Some-laters
returns-in-Some-laters c =
    let i = inventory_view c.args.stage.now.inventory.now in
    let ns = names_of c.args.stage.now.names.now in
    let xs = c.deref.result.now in
    let there = laters_there i ns in
    ap (λ (hs : List (Arc Lasting Global)). laters_from (host_names i) (map (λ x. since_view ns x.value) hs)) c.deref-in-Some-laters.ensures.value
    ∙ ap there (sym c.in-Some-laters.is)
    ∙ first_there there xs c.args.play c.in-Some.laters.now (ltb-true c.args.play (length xs) (sym c.in-Some.ensures.lookup.0)) c.in-Some.ensures.lookup.1
    ∙ ap (λ (os : List (Option (Vec (Arc Lasting Global) Global))). first_laters (drop c.args.play (map there os))) c.deref.ensures.value

pub returns-in-None : goal.returns-in-None
returns-in-None c =
    let i = inventory_view c.args.stage.now.inventory.now in
    let ns = names_of c.args.stage.now.names.now in
    let xs = c.deref.result.now in
    let there = laters_there i ns in
    ap there (sym c.in-None.is)
    ∙ first_there there xs c.args.play c.in-Some.laters.now (ltb-true c.args.play (length xs) (sym c.in-Some.ensures.lookup.0)) c.in-Some.ensures.lookup.1
    ∙ ap (λ (os : List (Option (Vec (Arc Lasting Global) Global))). first_laters (drop c.args.play (map there os))) c.deref.ensures.value
