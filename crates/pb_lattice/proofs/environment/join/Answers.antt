use Rattle.std.proofs.Common.{◌≡◌, sym, subst}
use Rattle.pb_language.specs.Judgement.{Exit, live}
use Rattle.pb_language.specs.Ordered.{ExitLe}
use Rattle.pb_language.specs.Wells.{WellExit}
use Rattle.pb_lattice.specs.Trees.{slots_over}
use Rattle.pb_lattice.specs.Arena.{names_of, tree_at}
use Rattle.pb_lattice.specs.Shared.{Shared}
use Rattle.pb_lattice.specs.Environments.{Stands, exit_of}
use Rattle.pb_lattice.proofs.Exits.{alike_roots, above_exits, least_exits, stands_own, from_none}
use Rattle.pb_lattice.proofs.environment.join.Goals as goal

pub join_trees-requires-clause-alike : goal.join_trees-requires-clause-alike
join_trees-requires-clause-alike c =
    let s : Shared = record { names = names_of c.space.inside.names.items; nodes = c.space.inside.nodes } in
    let e = c.args.first in
    let f = c.args.second in
    let same : s ≡ c.args.space.now = c.space.view_is in
    let first : Stands s e = subst (λ (u : Shared). Stands u e) (sym same) c.requires.first in
    let second : Stands s f = subst (λ (u : Shared). Stands u f) (sym same) c.requires.second in
    alike_roots s e f c.in-Some-Some.low c.in-Some-Some.high c.in-Some-Some.is-0 c.in-Some-Some.is-1 first second

pub returns-in_ok-root-in-Some-Some-clause-above : goal.returns-in_ok-root-in-Some-Some-clause-above
returns-in_ok-root-in-Some-Some-clause-above c =
    let s : Shared = record { names = names_of c.space.inside.names.items; nodes = c.space.inside.nodes } in
    let e = c.args.first in
    let f = c.args.second in
    let x = live (slots_over (tree_at c.join_trees.new.nodes c.in_ok-root-in-Some-Some.root) s.names) in
    let same : s ≡ c.args.space.now = c.space.view_is in
    let first : Stands s e = subst (λ (u : Shared). Stands u e) (sym same) c.requires.first in
    let second : Stands s f = subst (λ (u : Shared). Stands u f) (sym same) c.requires.second in
    subst (λ (u : Shared). ExitLe (exit_of u e) x × ExitLe (exit_of u f) x) same
    (above_exits s e f c.in-Some-Some.low c.in-Some-Some.high c.in-Some-Some.is-0 c.in-Some-Some.is-1 first second c.join_trees.new.nodes c.in_ok-root-in-Some-Some.root c.in_ok-root-in-Some-Some.ensures.joined)

pub returns-in_ok-root-in-Some-Some-clause-least : goal.returns-in_ok-root-in-Some-Some-clause-least
returns-in_ok-root-in-Some-Some-clause-least c =
    let s : Shared = record { names = names_of c.space.inside.names.items; nodes = c.space.inside.nodes } in
    let e = c.args.first in
    let f = c.args.second in
    let y = live (slots_over (tree_at c.join_trees.new.nodes c.in_ok-root-in-Some-Some.root) s.names) in
    let same : s ≡ c.args.space.now = c.space.view_is in
    let first : Stands s e = subst (λ (u : Shared). Stands u e) (sym same) c.requires.first in
    let second : Stands s f = subst (λ (u : Shared). Stands u f) (sym same) c.requires.second in
    subst (λ (u : Shared). (x : Exit) → WellExit x → ExitLe (exit_of u e) x → ExitLe (exit_of u f) x → ExitLe y x) same
    (least_exits s e f c.in-Some-Some.low c.in-Some-Some.high c.in-Some-Some.is-0 c.in-Some-Some.is-1 first second c.join_trees.new.nodes c.in_ok-root-in-Some-Some.root c.in_ok-root-in-Some-Some.ensures.joined)

pub returns-in_default-clause-above : goal.returns-in_default-clause-above
returns-in_default-clause-above c =
    let s = c.args.space.now in
    (stands_own s c.args.first c.requires.first, from_none s c.args.second (exit_of s c.args.first) c.in_default.is-1)

pub returns-in-None-default-clause-above : goal.returns-in-None-default-clause-above
returns-in-None-default-clause-above c =
    let s = c.args.space.now in
    (from_none s c.args.first (exit_of s c.args.second) c.in-None-default.is-0, stands_own s c.args.second c.requires.second)
