use Rattle.std.proofs.Common.{◌≡◌, [], ◌∷◌, ◌++◌, IfOk, codes, string_bytes, sym, subst}
use Rattle.std.specs.Fmt.{decimal}
use Rattle.pb_cli.specs.Texts.{verdict_line}
use Rattle.pb_cli.proofs.texts.verdict_text.Goals as goal

pub returns-in-Ok : goal.returns-in-Ok
returns-in-Ok c =
    let line = subst (λ n. IfOk c.format.result (λ s. string_bytes s ≡ codes "accepted budget " ++ (decimal n ++ (10 ∷ [])))) c.budget-budget.ensures.budget c.format.ensures.ok in
    subst (λ v. IfOk c.format.result (λ s. string_bytes s ≡ verdict_line v)) (sym c.in-Ok.is) line
