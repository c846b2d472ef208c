use Rattle.std.proofs.Common.{rules, ◌<◌, ℕ, length, subst, sym, arith}
use Rattle.std.proofs.lemmas.List.{get_or_default}
use Rattle.pb_lattice.specs.Graph.{edge_at}
use Rattle.pb_lattice.proofs.Staged.{in_range, stage_more}
use Rattle.pb_lattice.proofs.solution.solve.Goals as goal

pub loop-i-preserved : goal.loop-i-preserved
loop-i-preserved g c =
    let lattice = g.L.Lattice in
    let graph = c.args.graph.now in
    let vs = c.loop-i.values.items in
    let i = c.loop-i.i in
    let stage = c.loop-i.invariant in
    let rises = c.edges-edges.ensures.rises in
    let less : i < length graph.edges = search rules in
    let fits = c.requires.edges in
    let step : ℕ → lattice.Meaning → lattice.Meaning = λ e. lattice.carried (g.T.Transfer.step c.args.transfer.now e) in
    let inside : (edge_at graph i).target < length vs = subst (λ n. (edge_at graph i).target < n) (sym stage.number) (rises.inside i less) in
    let lower : (edge_at graph i).source < (edge_at graph i).target = rises.up i less in
    let within : (edge_at graph i).source < length vs = grind arith in
    let source = in_range vs (edge_at graph i).source c.index.result.now c.args.entry within (rw c.edges-edges.ensures.edges at c.index.ensures) in
    let target = in_range vs (edge_at graph i).target c.index-in-loop-i.result.now c.args.entry inside (rw c.edges-edges.ensures.edges at c.index-in-loop-i.ensures) in
    let given = c.in_ok-given.ensures in
    let joined = c.in_ok-joined.ensures in
    rw c.edges-edges.ensures.edges
    (stage_more lattice.stands lattice.meaning lattice.well lattice.below step graph c.args.space.now c.args.entry
    (λ s v h. c.stands_well.ensures s v h) (λ x y z a b d p q. c.below_through.ensures x y z a b d p q) (λ x h. c.below_itself.ensures x h)
    (λ e x y l a b h. c.goes_up.ensures c.args.transfer.now e x y (grind arith) a b h) (λ e x l a. c.stays_well.ensures c.args.transfer.now e x (grind arith) a)
    c.requires.entry rises i less c.loop-i.space c.along.new.space c.join.new.space vs c.in_ok-given.given c.in_ok-joined.joined
    given.kept given.stands
    (subst (λ v. lattice.below (lattice.meaning c.along.new.space c.in_ok-given.given) (step i (lattice.meaning c.loop-i.space v))) source given.at_most)
    (subst (λ v. lattice.below (step i (lattice.meaning c.loop-i.space v)) (lattice.meaning c.along.new.space c.in_ok-given.given)) source given.at_least)
    joined.kept joined.stands
    (subst (λ v. lattice.below (lattice.meaning c.along.new.space v) (lattice.meaning c.join.new.space c.in_ok-joined.joined)) target joined.above.0, joined.above.1)
    (λ m w a b. joined.least m w (subst (λ v. lattice.below (lattice.meaning c.along.new.space v) m) (sym target) a) b)
    stage)

pub returns-clause-stands : goal.returns-clause-stands
returns-clause-stands g c =
    let stage = c.loop-i.invariant in
    λ k d h. subst (g.L.Lattice.stands c.loop-i.space) (get_or_default c.loop-i.values.items k c.args.entry d h) (stage.stand k (subst (λ n. k < n) stage.number h))
