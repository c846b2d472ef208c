use Rattle.std.proofs.Common.{Ok, sym, ap, ◌∙◌}
use Rattle.std.proofs.lemmas.Result.{err_from_is_err_and}
use Rattle.pb_inventory.specs.Inventory.{inventory_view}
use Rattle.pb_book.specs.Books.{book_view}
use Rattle.pb_book.specs.Reading.{book_in}
use Rattle.pb_sig.specs.Modules.{modules_of}
use Rattle.pb_cli.proofs.Verdicts.{Tells-accepted, Tells-book, Tells-refused}
use Rattle.pb_cli.proofs.judge.judge_read.Goals as goal

pub returns-in_err-book-clause-verdict : goal.returns-in_err-book-clause-verdict
returns-in_err-book-clause-verdict c =
    let ms = modules_of c.args.registry in
    let p = err_from_is_err_and c.from_residual.result c.from_residual.ensures.1 in
    rw (p.1, p.2) (Tells-book ms (inventory_view c.args.inventory) c.in_err-book.field-0.0 (book_in ms c.args.book.now) c.in_err-book.ensures.given)

pub returns-in_err-verify-clause-verdict : goal.returns-in_err-verify-clause-verdict
returns-in_err-verify-clause-verdict c =
    let ms = modules_of c.args.registry in
    let b = c.in_ok-book.book in
    let p = err_from_is_err_and c.from_residual-in_err-verify.result c.from_residual-in_err-verify.ensures.1 in
    rw (p.1, p.2) (Tells-refused ms (inventory_view c.args.inventory) (book_view b) c.in_err-verify.field-0.0 (book_in ms c.args.book.now) c.in_ok-book.ensures.given c.in_err-verify.ensures.verdict)

pub returns-clause-book_read : goal.returns-clause-book_read
returns-clause-book_read c =
    let kept = c.in_ok-verify.ensures.handed in
    ap (λ r. book_in (modules_of r) c.args.book.now) kept.2 ∙ c.in_ok-book.ensures.given ∙ ap (λ b. Ok (book_view b)) (sym kept.0)

pub returns-clause-verdict : goal.returns-clause-verdict
returns-clause-verdict c =
    let ms = modules_of c.args.registry in
    Tells-accepted ms (inventory_view c.args.inventory) (book_view c.in_ok-book.book) c.in_ok-verify.field-0 (book_in ms c.args.book.now) c.in_ok-book.ensures.given c.in_ok-verify.ensures.verdict
