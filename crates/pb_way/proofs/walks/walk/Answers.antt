use Rattle.std.proofs.Common.{◌∙◌, length, map, sym, ap, subst, arith}
use Rattle.std.proofs.lemmas.List.{length-map}
use Rattle.std.specs.List.{All}
use Rattle.pb_lattice.specs.Environments.{Stands}
use Rattle.pb_way.proofs.Solved.{solved-walk, stand-all}
use Rattle.pb_route.proofs.Stations.{if-ok}
use Rattle.pb_way.proofs.Tables.{kept-known}
use Rattle.pb_way.proofs.walks.walk.Goals as goal

pub returns-in_err-values-clause-kept : goal.returns-in_err-values-clause-kept
returns-in_err-values-clause-kept g c = kept-known c.args.space.now c.solve.new.space c.args.entry c.requires.stands (λ e h. c.solve.ensures.kept (record c.of-start.result { at = e }) h)

pub returns-clause-kept : goal.returns-clause-kept
returns-clause-kept g c = kept-known c.args.space.now c.solve.new.space c.args.entry c.requires.stands (λ e h. c.solve.ensures.kept (record c.of-start.result { at = e }) h)

pub returns-clause-number : goal.returns-clause-number
returns-clause-number g c =
    if-ok c.environments_of.result _ _ c.environments_of.ensures (λ vs made.
    omega (
      arith,
      ap length made,
      length-map c.deref.result.now (λ v. v.at),
      ap length c.deref.ensures.value,
      c.in_ok-values.ensures.number,
      ap (λ x. x.count) c.graph.ensures.graph,
      c.graph.ensures.paths.count,
    ))

pub returns-clause-stands : goal.returns-clause-stands
returns-clause-stands g c =
    if-ok c.environments_of.result _ _ c.environments_of.ensures (λ vs made.
    subst (All (Stands c.solve.new.space)) (sym (made ∙ ap (map (λ v. v.at)) c.deref.ensures.value))
    (stand-all _ (λ v. v.at) c.solve.new.space c.in_ok-values.values.items c.in_ok-values.ensures.stands))

pub returns-clause-walks : goal.returns-clause-walks
returns-clause-walks g c =
    let kept = kept-known c.args.space.now c.solve.new.space c.args.entry c.requires.stands (λ e h. c.solve.ensures.kept (record c.of-start.result { at = e }) h) in
    if-ok c.environments_of.result _ _ c.environments_of.ensures (λ vs made. λ row of.
    solved-walk (g.O.Outlook.setting c.args.outlook.now) c.args.route.now row c.graph.result.now c.args.space.now c.solve.new.space c.args.entry _ (λ v. v.at) c.of-start.result c.in_ok-values.values.items vs.items
    of c.of-start.ensures (made ∙ ap (map (λ v. v.at)) c.deref.ensures.value) c.graph.ensures.graph c.requires.stands kept c.in_ok-values.ensures.stands c.in_ok-values.ensures.covers c.in_ok-values.ensures.least
    (c.views_are_well.ensures c.args.outlook.now) c.solution_is_walk.ensures c.values_are_visits.ensures c.nodes_are_visits.ensures)
