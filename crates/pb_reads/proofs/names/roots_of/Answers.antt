use Rattle.std.proofs.Common.{◌∙◌, ◌++◌, ap}
use Rattle.pb_syntax.specs.ExprView.{expr_view}
use Rattle.pb_reads.specs.Roots.{roots_in}
use Rattle.pb_reads.specs.RootsView.{roots_view}
use Rattle.pb_reads.proofs.names.roots_of.Goals as goal

pub returns : goal.returns
returns c = c.in_ok-put_roots.ensures ∙ ap (λ xs. roots_view xs ++ roots_in (expr_view c.args.value.now)) c.new-found.ensures.items
