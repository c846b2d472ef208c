use Rattle.std.proofs.Common.{◌≡◌, ◌∙◌, map, sym, ap, subst}
use Rattle.std.proofs.lemmas.Result.{err_from_is_err_and}
use Rattle.pb_semantics.specs.Gives.{FaultGives}
use Rattle.pb_language.specs.Judged.{judged}
use Rattle.pb_language.specs.Verdict.{Verdict, accepted}
use Rattle.pb_sig.specs.Modules.{modules_of}
use Rattle.pb_inventory.specs.Inventory.{inventory_view}
use Rattle.pb_play.specs.Plays.{play_view}
use Rattle.pb_book.specs.Books.{book_view}
use Rattle.pb_verify.specs.Judges.{refused_verdict}
use Rattle.pb_verify.specs.Known.{IsTable}
use Rattle.pb_verify.specs.declared.checked.Accepted.{Accepted}
use Rattle.pb_verify.proofs.Verdicts.{accepted-accepts}
use Rattle.pb_verify.proofs.verify.verify.Goals as goal

pub returns-in_err-budget-clause-verdict : goal.returns-in_err-budget-clause-verdict
returns-in_err-budget-clause-verdict c =
    let p = err_from_is_err_and c.from_residual.result c.from_residual.ensures.1 in
    let ms = modules_of c.args.registry in
    let i = inventory_view c.args.inventory in
    let same : judged ms i (map play_view c.plays.result.now) ≡ judged ms i (book_view c.args.book) = ap (λ ps. judged ms i (map play_view ps)) c.plays.ensures in
    rw (p.1, p.2) (subst (λ (v : Verdict). FaultGives (refused_verdict c.in_err-budget.field-0.0) v) same c.in_err-budget.ensures.verdict)

pub of-requires : goal.of-requires
of-requires c =
    let ms = modules_of c.args.registry in
    let i = c.args.inventory in
    let judge = judged ms (inventory_view i) in
    let verdict : judge (book_view c.args.book) ≡ accepted c.in_ok-budget.field-0.budget = sym (ap (λ ps. judge (map play_view ps)) c.plays.ensures) ∙ c.in_ok-budget.ensures.verdict in
    record {
      accepted = accepted-accepts c.in_ok-budget.field-0.budget (judge (book_view c.args.book)) verdict;
      sound = c.requires;
      table = subst (λ ps. IsTable ms i (map play_view ps) c.in_ok-budget.field-0.views.items) c.plays.ensures c.in_ok-budget.ensures.table;
    }

pub returns-clause-verdict : goal.returns-clause-verdict
returns-clause-verdict c =
    let judge = judged (modules_of c.args.registry) (inventory_view c.args.inventory) in
    sym (ap (λ ps. judge (map play_view ps)) c.plays.ensures) ∙ c.in_ok-budget.ensures.verdict ∙ ap (λ (a : Accepted). accepted a.budget) (sym c.of.ensures)
