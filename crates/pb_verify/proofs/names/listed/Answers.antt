use Rattle.std.proofs.Common.{◌≡◌, [], ◌++◌, List, sym, ap, subst, ◌∙◌, append-nil}
use Rattle.pb_language.specs.Expression.{Name}
use Rattle.pb_lattice.specs.Arena.{names_of}
use Rattle.pb_lattice.specs.Trees.{IsAscending}
use Rattle.pb_verify.proofs.Listed.{ascending_names, lent_names}
use Rattle.pb_verify.proofs.names.listed.Goals as goal

pub returns : goal.returns
returns c =
    let l = c.loop-name in
    let nothing : l.name-iterator ≡ [] = (c.in-None.ensures).steps.0 in
    let all : names_of l.list.items ≡ lent_names c.args.names.now.keys = sym (append-nil (names_of l.list.items)) ∙ ap (λ ks. names_of l.list.items ++ lent_names ks) (sym nothing) ∙ l.invariant in
    subst (λ (ns : List Name). IsAscending ns) (sym all) (ascending_names c.args.names.now.keys c.len.ensures.ordered)
