use Rattle.std.proofs.Common.{◌≡◌, ◌∙◌, map, sym, ap, subst}
use Rattle.std.proofs.lemmas.Result.{IfOk-weaker}
use Rattle.pb_language.specs.Expansion.{expanded_root, trees}
use Rattle.pb_language.specs.Expression.{no_parts}
use Rattle.pb_language.specs.Plays.{append_expressions}
use Rattle.pb_syntax.specs.ExprView.{exprs_view}
use Rattle.pb_task.specs.Tasks.{task_view}
use Rattle.pb_vars.specs.InScope.{in_scope}
use Rattle.pb_flow.specs.Nodes.{around_view}
use Rattle.pb_route.specs.Station.{lone_registry, stands_round, station_task}
use Rattle.pb_reads.specs.Done.{evaluated}
use Rattle.pb_reads.specs.Reads.{IsRead}
use Rattle.pb_reads.specs.Roots.{all_roots}
use Rattle.pb_reads.specs.RootsView.{roots_view}
use Rattle.pb_reads.specs.Uses.{expressions_of}
use Rattle.pb_reads.proofs.Evaluated.{evaluated-in-place}
use Rattle.pb_reads.proofs.Trees.{in-trees, out-of-trees}
use Rattle.pb_reads.proofs.uses.reads_of.Goals as goal

-- the roots that were put, with their trees, are those of what the task evaluates
trees-of-roots : (c : goal.After-drop-roots)
    → map (expanded_root (trees (in_scope c.args.station.now.vars))) (roots_view c.as_slice.result.now) ≡ all_roots (expressions_of (station_task c.args.station.now))
trees-of-roots c =
    let s = c.args.station.now in
    let f = trees (in_scope s.vars) in
    let ms = lone_registry s.task.now.work in
    let read : roots_view c.as_slice.result.now ≡ all_roots (evaluated (append_expressions (stands_round s).conditions (exprs_view s.task.now.when.items)) (task_view s.task.now)) =
    ap roots_view c.as_slice.ensures.value ∙ c.in_ok-roots.ensures ms no_parts
    ∙ ap (λ a. all_roots (evaluated (append_expressions (around_view ms no_parts a).conditions (exprs_view s.task.now.when.items)) (task_view s.task.now))) c.deref.ensures in
    ap (map (expanded_root f)) read ∙ sym (evaluated-in-place f (stands_round s) s.place (task_view s.task.now))

pub returns-clause-sound : goal.returns-clause-sound
returns-clause-sound c =
    let scope = in_scope c.args.station.now.vars in
    let rs = roots_view c.as_slice.result.now in
    IfOk-weaker c.names_read.result _ _
    (λ ns told n h. subst (λ qs. IsRead no_parts qs n) (trees-of-roots c) (in-trees scope (trees scope) (c.trees_are_whole.ensures scope c.requires.station.short) rs n (told n h)))
    c.names_read.ensures.sound

pub returns-clause-whole : goal.returns-clause-whole
returns-clause-whole c =
    let scope = in_scope c.args.station.now.vars in
    let rs = roots_view c.as_slice.result.now in
    IfOk-weaker c.names_read.result _ _
    (λ ns told n x. told c.requires.station.short n (out-of-trees scope (trees scope) (c.trees_are_whole.ensures scope c.requires.station.short) rs n (subst (λ qs. IsRead no_parts qs n) (sym (trees-of-roots c)) x)))
    c.names_read.ensures.whole
