use Rattle.std.proofs.Common.{◌≡◌, ◌∙◌, not, true, false, Bool, List, [], ◌∷◌, refl, ap, sym}
use Rattle.std.proofs.Math.Bool.{beq}
use Rattle.std.specs.List.{list_any}
use Rattle.pb_vars.specs.InScope.{in_scope}
use Rattle.pb_vars.proofs.Chains.{long-chains}
use Rattle.pb_vars.proofs.Ordered.{are-found}
use Rattle.pb_vars.proofs.in_scope.InScope.has_long_chain.Goals as goal

any-false : (bs : List Bool) → list_any (λ b. beq b false) bs ≡ list_any not bs
any-false [] = refl
any-false (true ∷ bs) = any-false bs
any-false (false ∷ bs) = refl

pub returns : goal.returns
returns c =
    let ps = in_scope c.args.self.now in
    c.contains.ensures.value ∙ any-false c.deref.result.now ∙ ap (list_any not) (c.deref.ensures.value ∙ c.in_ok-short.ensures)
    ∙ sym (long-chains ps (are-found ps c.args.self.now.ordered))
