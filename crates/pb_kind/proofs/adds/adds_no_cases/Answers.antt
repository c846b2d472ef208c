use Rattle.std.proofs.Common.{◌∙◌, sym, ap}
use Rattle.pb_semantics.specs.Grown.{met}
use Rattle.pb_semantics.specs.Kind.{results}
use Rattle.pb_kind.specs.KindView.{cases_view}
use Rattle.pb_kind.proofs.Adding.{same_results}
use Rattle.pb_kind.proofs.adds.adds_no_cases.Goals as goal

pub returns-then-not-leads : goal.returns-then-not-leads
returns-then-not-leads c = λ h q r e.
    let cs = cases_view c.args.joined.now in
    let ds = cases_view c.args.cases.now in
    ap (λ b. met b (results ds q) (results cs r)) c.if-not-leads.true
    ∙ same_results cs ds q r (sym c.covers_all.ensures ∙ h) (ap (λ b. met b q r) (sym c.if-not-leads.true) ∙ e)
