use Rattle.std.proofs.Common.{◌≡◌, ◌∙◌, Option, Some, None, Result, Ok, Err, false, cond, length, ap, subst, sym, refl, arith}
use Rattle.std.specs.Prelude.{nat_lt}
use Rattle.std.proofs.lemmas.Bool.Decides.{nat_tests}
use Rattle.pb_semantics.specs.Gives.{Gives}
use Rattle.pb_semantics.specs.Limits.{most_inventory_bytes}
use Rattle.pb_language.specs.Inventories.{inventory_found, judged_document, over_limit}
use Rattle.pb_language.specs.Written.{Document, document_in}
use Rattle.pb_value.specs.FromJson.{json_data}
use Rattle.pb_value.specs.View.{view}
use Rattle.pb_inventory.specs.Documents.{document_view, formed}
use Rattle.pb_inventory.specs.Inventory.{inventory_view}
use Rattle.pb_inventory.specs.Offences.{inventory_in, inventory_of_json, of_file, offence_of, refused}
use Rattle.pb_inventory.proofs.inventory.Inventory.read.Goals as goal

written : (o : Option Document) (d : Document) → formed o ≡ Ok d → o ≡ Some d
written None d h = absurd (cc)
written (Some e) d h = cc

pub returns-clause-verdict : goal.returns-clause-verdict
returns-clause-verdict c =
    let bs = c.args.bytes.now in
    let d = document_view c.in_ok-document.document in
    let few : nat_lt most_inventory_bytes (length bs) ≡ false = grind (arith, nat_tests, c.if-bytes-gt-INVENTORY_LIMIT.false) in
    let meant : document_in (view c.in_ok-value.value) ≡ Some d = written _ d c.in_ok-document.ensures.given in
    let whole : inventory_in bs ≡ of_file (judged_document d) =
    ap (λ b. cond b (Err (refused over_limit)) (inventory_of_json (json_data bs))) few ∙ ap inventory_of_json c.in_ok-value.ensures.read ∙ ap (λ o. of_file (inventory_found o)) meant in
    subst (Gives (λ i. Ok (inventory_view i)) offence_of c.inventory_of.result) (sym whole) c.inventory_of.ensures
