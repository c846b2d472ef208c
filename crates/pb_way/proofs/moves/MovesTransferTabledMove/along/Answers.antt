use Rattle.std.proofs.Common.{◌∙◌, ap}
use Rattle.pb_language.specs.Ordered.{ExitLe}
use Rattle.pb_lattice.proofs.Exits.{stands_well}
use Rattle.pb_lattice.specs.Environments.{exit_of}
use Rattle.pb_route.specs.Routes.{path_step}
use Rattle.pb_way.proofs.Alongs.{start-along, task-along}
use Rattle.pb_way.proofs.Tables.{known-kept}
use Rattle.pb_way.proofs.moves.MovesTransferTabledMove.along.Given as given
use Rattle.pb_way.proofs.moves.MovesTransferTabledMove.along.Goals as goal

begun : (g : given.Over) (c : goal.After-of g)
    → let step = path_step (g.O.Outlook.setting c.args.self.now.outlook.now) c.args.self.now.route.now c.args.edge (exit_of c.args.space.now c.args.at.now.at) in
    ExitLe (exit_of c.args.space.now c.of.result.at) step × ExitLe step (exit_of c.args.space.now c.of.result.at)
begun g c =
    rw c.of.ensures
    (start-along (g.O.Outlook.setting c.args.self.now.outlook.now) c.args.self.now.route.now c.args.edge c.edges.result.now (exit_of c.args.space.now c.args.at.now.at)
    (c.edges.ensures.edges ∙ ap (λ x. x.edges) c.graph.ensures.graph) (stands_well c.args.space.now c.args.at.now.at c.requires.stands) c.if-source-eq0.true)

pub returns-then-source-eq0-clause-at_most : goal.returns-then-source-eq0-clause-at_most
returns-then-source-eq0-clause-at_most g c = (begun g c).0

pub returns-then-source-eq0-clause-at_least : goal.returns-then-source-eq0-clause-at_least
returns-then-source-eq0-clause-at_least g c = (begun g c).1

pub returns-in_err-after-clause-kept : goal.returns-in_err-after-clause-kept
returns-in_err-after-clause-kept g c = λ v h. known-kept c.args.space.now c.led.new.space v.at c.led.ensures.kept h

pub returns-clause-kept : goal.returns-clause-kept
returns-clause-kept g c = λ v h. known-kept c.args.space.now c.led.new.space v.at c.led.ensures.kept h

led-on : (g : given.Over) (c : goal.After-of-2 g)
    → let step = path_step (g.O.Outlook.setting c.args.self.now.outlook.now) c.args.self.now.route.now c.args.edge (exit_of c.args.space.now c.args.at.now.at) in
    ExitLe (exit_of c.led.new.space c.of-2.result.at) step × ExitLe step (exit_of c.led.new.space c.of-2.result.at)
led-on g c =
    let st = g.O.Outlook.setting c.args.self.now.outlook.now in
    rw c.of-2.ensures
    (task-along st (λ t w x p. c.what_is_led_goes_up.ensures.well st t w x (c.views_are_well.ensures c.args.self.now.outlook.now) p)
    c.args.self.now.route.now c.args.edge c.edges.result.now c.ways.result.now c.stations.result.now c.index-stations-source.result
    (exit_of c.args.space.now c.args.at.now.at) (exit_of c.led.new.space c.in_ok-after.after)
    (c.edges.ensures.edges ∙ ap (λ x. x.edges) c.graph.ensures.graph) c.ways.ensures c.stations.ensures.stations (stands_well c.args.space.now c.args.at.now.at c.requires.stands)
    c.if-source-eq0.false c.graph.ensures.paths c.requires.edge c.index-stations-source.is c.in_ok-after.ensures.same)

pub returns-clause-at_most : goal.returns-clause-at_most
returns-clause-at_most g c = (led-on g c).0

pub returns-clause-at_least : goal.returns-clause-at_least
returns-clause-at_least g c = (led-on g c).1
