-- What becomes of a document, by what is found of it.
use Rattle.std.proofs.Common.{◌≡◌, ◌∙◌, Bool, true, false, Result, Ok, Err, ap, cond}
use Rattle.std.specs.List.{list_all}
use Rattle.std.specs.Result.{IsErrAnd}
use Rattle.std.proofs.lemmas.Result.{err_from_is_err_and}
use Rattle.pb_semantics.specs.Gives.{Gives}
use Rattle.pb_language.specs.Families.{has_cycle}
use Rattle.pb_language.specs.Inventories.{Offence, cyclic, inventory_of, is_document_within, judged_document, over_limit, wrong_form, wrong_host_name}
use Rattle.pb_language.specs.Program.{Inventory}
use Rattle.pb_language.specs.Written.{Document, is_host_name, is_well_formed, listed_hosts}
use Rattle.pb_inventory.specs.Offences.{FileOffence, of_file, offence_of, refused}
use Rattle.pb_inventory.specs.declared.fault.InventoryFault.{InventoryFault}
use Rattle.pb_inventory.specs.declared.fault.InventoryFault.TheVariants.{NoMemory}

module _ (d : Document) (well : is_well_formed d ≡ true) where
  abbrev limited : Result Inventory Offence
  limited = cond (is_document_within d) (Ok (inventory_of d)) (Err over_limit)

  abbrev ordered : Result Inventory Offence
  ordered = cond (has_cycle d.groups) (Err cyclic) limited

  abbrev named : Bool → Result Inventory Offence
  named b = cond b ordered (Err wrong_host_name)

  formed : of_file (judged_document d) ≡ of_file (named (list_all is_host_name (listed_hosts d.groups)))
  formed = ap (λ b. of_file (cond b (named (list_all is_host_name (listed_hosts d.groups))) (Err wrong_form))) well

  pub judged-host_name : list_all is_host_name (listed_hosts d.groups) ≡ false → of_file (judged_document d) ≡ Err (refused wrong_host_name)
  judged-host_name names = formed ∙ ap (λ b. of_file (named b)) names

  module _ (names : list_all is_host_name (listed_hosts d.groups) ≡ true) where
    hosts : of_file (judged_document d) ≡ of_file ordered
    hosts = formed ∙ ap (λ b. of_file (named b)) names

    pub judged-cycle : has_cycle d.groups ≡ true → of_file (judged_document d) ≡ Err (refused cyclic)
    judged-cycle cycle = hosts ∙ ap (λ b. of_file (cond b (Err cyclic) limited)) cycle

    pub judged-limit : has_cycle d.groups ≡ false → is_document_within d ≡ false → of_file (judged_document d) ≡ Err (refused over_limit)
    judged-limit order within = hosts ∙ ap (λ b. of_file (cond b (Err cyclic) limited)) order ∙ ap (λ b. of_file (cond b (Ok (inventory_of d)) (Err over_limit))) within

    pub judged-inventory : has_cycle d.groups ≡ false → is_document_within d ≡ true → of_file (judged_document d) ≡ Ok (inventory_of d)
    judged-inventory order within = hosts ∙ ap (λ b. of_file (cond b (Err cyclic) limited)) order ∙ ap (λ b. of_file (cond b (Ok (inventory_of d)) (Err over_limit))) within

-- want of memory says nothing of the file
pub no-memory : {A D : Type 0} (f : A → Result D FileOffence) (r : Result A InventoryFault) (x : Result D FileOffence) → IsErrAnd r (λ e. e ≡ NoMemory) → Gives f offence_of r x
no-memory f r x is =
    let p = err_from_is_err_and r is in
    rw (p.1, p.2) tt
