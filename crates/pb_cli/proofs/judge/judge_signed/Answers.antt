use Rattle.std.proofs.Common.{◌≡◌, Err, Ok, Some, sym, ap, ◌∙◌}
use Rattle.std.proofs.lemmas.Result.{IfOk-weaker, err_from_is_err_and}
use Rattle.pb_inventory.specs.Inventory.{inventory_view}
use Rattle.pb_inventory.specs.Offences.{inventory_in}
use Rattle.pb_sig.specs.Modules.{modules_of}
use Rattle.pb_sig.specs.Registered.{registry_of}
use Rattle.pb_sig.specs.Signatures.{most_signature_bytes}
use Rattle.pb_sig.specs.declared.fault.SignatureFault.{SignatureFault}
use Rattle.pb_sig.specs.declared.fault.SignatureFault.TheVariants as signature
use Rattle.pb_book.specs.Reading.{book_in}
use Rattle.pb_cli.specs.FileVerdicts.{inventory_code, inventory_verdict, modules_verdict, offence_code, of_signatures, with_code}
use Rattle.pb_cli.specs.declared.judge.Fault.TheVariants.{NoMemory}
use Rattle.pb_cli.proofs.Verdicts.{read-unlooked, Tells-after, Tells-found, Tells-inventory, Tells-signatures}
use Rattle.pb_cli.proofs.judge.judge_signed.Goals as goal

pub returns-in_err-registry-clause-verdict : goal.returns-in_err-registry-clause-verdict
returns-in_err-registry-clause-verdict c =
    let p = err_from_is_err_and c.from_residual.result c.from_residual.ensures.1 in
    rw (p.1, p.2) (Tells-signatures c.in_err-registry.field-0.0 (registry_of c.args.signatures.now) c.args.inventory.now c.args.book.now c.in_err-registry.ensures.verdict)

pub returns-in_err-inventory-clause-verdict : goal.returns-in_err-inventory-clause-verdict
returns-in_err-inventory-clause-verdict c =
    let ms = modules_of c.in_ok-registry.registry in
    let p = err_from_is_err_and c.from_residual-in_err-inventory.result c.from_residual-in_err-inventory.ensures.1 in
    Tells-after c.from_residual-in_err-inventory.result (modules_verdict (Some c.args.signatures.now)) ms c.args.inventory.now c.args.book.now (ap (with_code offence_code) c.in_ok-registry.ensures.verdict)
    (rw (p.1, p.2) (Tells-inventory ms c.in_err-inventory.field-0.0 (inventory_in c.args.inventory.now) (book_in ms c.args.book.now) c.in_err-inventory.ensures.verdict))

pub returns-clause-verdict : goal.returns-clause-verdict
returns-clause-verdict c =
    let ms = modules_of c.in_ok-registry.registry in
    let i = inventory_view c.in_ok-inventory.inventory in
    let read = ap (with_code inventory_code) c.in_ok-inventory.ensures.verdict in
    Tells-after c.judge_read.result (modules_verdict (Some c.args.signatures.now)) ms c.args.inventory.now c.args.book.now (ap (with_code offence_code) c.in_ok-registry.ensures.verdict)
    (Tells-found c.judge_read.result ms i (inventory_verdict c.args.inventory.now) (book_in ms c.args.book.now) read c.judge_read.ensures.verdict)

pub returns-clause-read : goal.returns-clause-read
returns-clause-read c =
    let read = ap (with_code inventory_code) c.in_ok-inventory.ensures.verdict in
    IfOk-weaker c.judge_read.result _ _ (λ _ kept. read ∙ ap (λ i. Ok (inventory_view i)) (sym kept)) c.judge_read.ensures.kept

pub returns-in_err-registry-clause-apart : goal.returns-in_err-registry-clause-apart
returns-in_err-registry-clause-apart c = λ unlooked memory.
    let p = err_from_is_err_and c.from_residual.result c.from_residual.ensures.1 in
    let here = p.1 in
    let same = p.2 in
    let fault : of_signatures c.in_err-registry.field-0.0 ≡ NoMemory = cc in
    read-unlooked c.args.signatures.now most_signature_bytes signature.Limit signature.NotJson c.read.result c.read.ensures.large (λ r. (e : SignatureFault) → r ≡ Err e → of_signatures e ≡ NoMemory → ⊥) unlooked c.read.ensures.no_text
    (λ e is f. let which : signature.Limit ≡ e = cc in let clash = ap of_signatures which ∙ f in cc) (λ e is f. let which : signature.NotJson ≡ e = cc in let clash = ap of_signatures which ∙ f in cc)
    c.in_err-registry.field-0.0 c.in_err-registry.was fault

pub returns-in_err-inventory-clause-apart : goal.returns-in_err-inventory-clause-apart
returns-in_err-inventory-clause-apart c = λ unlooked memory.
    read-unlooked c.args.signatures.now most_signature_bytes signature.Limit signature.NotJson c.read.result c.read.ensures.large (λ r. r ≡ Ok c.in_ok-registry.registry → ⊥) unlooked c.read.ensures.no_text (λ e. cc) (λ e. cc) c.in_ok-registry.was

pub returns-clause-apart : goal.returns-clause-apart
returns-clause-apart c = λ unlooked memory.
    read-unlooked c.args.signatures.now most_signature_bytes signature.Limit signature.NotJson c.read.result c.read.ensures.large (λ r. r ≡ Ok c.in_ok-registry.registry → ⊥) unlooked c.read.ensures.no_text (λ e. cc) (λ e. cc) c.in_ok-registry.was
