use Rattle.std.proofs.Common.{◌≡◌, Err, Ok, None, ap, ◌∙◌, subst}
use Rattle.std.proofs.lemmas.Result.{err_from_is_err_and}
use Rattle.pb_semantics.specs.Limits.{most_inventory_bytes}
use Rattle.pb_inventory.specs.Inventory.{inventory_view}
use Rattle.pb_inventory.specs.Offences.{inventory_in}
use Rattle.pb_inventory.specs.declared.fault.InventoryFault.{InventoryFault}
use Rattle.pb_inventory.specs.declared.fault.InventoryFault.TheVariants as inventory
use Rattle.pb_sig.specs.Table.{builtins}
use Rattle.pb_book.specs.Reading.{book_in}
use Rattle.pb_cli.specs.FileVerdicts.{Tells, book_found, found, inventory_code, inventory_verdict, of_inventory, with_code}
use Rattle.pb_cli.specs.declared.judge.Fault.TheVariants.{NoMemory}
use Rattle.pb_cli.proofs.Verdicts.{Tells-found, Tells-inventory, Tells-no_memory, read-unlooked}
use Rattle.pb_cli.proofs.judge.judge_unsigned.Goals as goal

pub returns-in_err-inventory-clause-verdict : goal.returns-in_err-inventory-clause-verdict
returns-in_err-inventory-clause-verdict c =
    let p = err_from_is_err_and c.from_residual.result c.from_residual.ensures.1 in
    rw (p.1, p.2) (Tells-inventory builtins c.in_err-inventory.field-0.0 (inventory_in c.args.inventory.now) (book_in builtins c.args.book.now) c.in_err-inventory.ensures.verdict)

pub returns-in_err-registry-clause-verdict : goal.returns-in_err-registry-clause-verdict
returns-in_err-registry-clause-verdict c =
    let p = err_from_is_err_and c.from_residual-in_err-registry.result c.from_residual-in_err-registry.ensures.1 in
    rw (p.1, p.2) (Tells-no_memory (found None c.args.inventory.now c.args.book.now))

pub returns-clause-verdict : goal.returns-clause-verdict
returns-clause-verdict c =
    let i = inventory_view c.in_ok-inventory.inventory in
    let read = ap (with_code inventory_code) c.in_ok-inventory.ensures.verdict in
    Tells-found c.judge_read.result builtins i (inventory_verdict c.args.inventory.now) (book_in builtins c.args.book.now) read
    (subst (λ ms. Tells c.judge_read.result (book_found ms i (book_in ms c.args.book.now))) c.in_ok-registry.ensures c.judge_read.ensures.verdict)

pub returns-in_err-inventory-clause-apart : goal.returns-in_err-inventory-clause-apart
returns-in_err-inventory-clause-apart c = λ unlooked memory.
    let p = err_from_is_err_and c.from_residual.result c.from_residual.ensures.1 in
    let here = p.1 in
    let same = p.2 in
    let fault : of_inventory c.in_err-inventory.field-0.0 ≡ NoMemory = cc in
    read-unlooked c.args.inventory.now most_inventory_bytes inventory.Limit inventory.NotJson c.read.result c.read.ensures.large (λ r. (e : InventoryFault) → r ≡ Err e → of_inventory e ≡ NoMemory → ⊥) unlooked c.read.ensures.no_text
    (λ e is f. let which : inventory.Limit ≡ e = cc in let clash = ap of_inventory which ∙ f in cc) (λ e is f. let which : inventory.NotJson ≡ e = cc in let clash = ap of_inventory which ∙ f in cc)
    c.in_err-inventory.field-0.0 c.in_err-inventory.was fault

pub returns-in_err-registry-clause-apart : goal.returns-in_err-registry-clause-apart
returns-in_err-registry-clause-apart c = λ unlooked memory.
    read-unlooked c.args.inventory.now most_inventory_bytes inventory.Limit inventory.NotJson c.read.result c.read.ensures.large (λ r. r ≡ Ok c.in_ok-inventory.inventory → ⊥) unlooked c.read.ensures.no_text (λ e. cc) (λ e. cc) c.in_ok-inventory.was

pub returns-clause-apart : goal.returns-clause-apart
returns-clause-apart c = λ unlooked memory.
    read-unlooked c.args.inventory.now most_inventory_bytes inventory.Limit inventory.NotJson c.read.result c.read.ensures.large (λ r. r ≡ Ok c.in_ok-inventory.inventory → ⊥) unlooked c.read.ensures.no_text (λ e. cc) (λ e. cc) c.in_ok-inventory.was
