use Rattle.std.proofs.Common.{◌≡◌, ◌∙◌, Ok, ap, map, sym}
use Rattle.std.specs.List.{list_all}
use Rattle.pb_language.specs.Families.{has_cycle, host_order}
use Rattle.pb_language.specs.Written.{is_host_name}
use Rattle.pb_inventory.specs.Documents.{document_view, key_names, written_view}
use Rattle.pb_inventory.specs.Inventory.{inventory_view}
use Rattle.pb_inventory.proofs.Judged.{judged-cycle, judged-host_name, judged-inventory, judged-limit, no-memory}
use Rattle.pb_inventory.proofs.Listed.{host_order-all}
use Rattle.pb_inventory.proofs.build.inventory_of.Goals as goal

pub returns-then-not-are_host_names : goal.returns-then-not-are_host_names
returns-then-not-are_host_names c =
    let d = document_view c.args.document.now in
    let hosts : key_names c.in_ok-hosts.hosts.keys ≡ host_order d.groups = c.in_ok-hosts.ensures ∙ ap (λ gs. host_order (map written_view gs)) c.as_slice-groups.ensures.value in
    let well = sym c.is_well_formed.ensures ∙ c.if-not-is_well_formed.false in
    judged-host_name d well (sym (host_order-all is_host_name d.groups) ∙ ap (list_all is_host_name) (sym hosts) ∙ sym c.are_host_names.ensures ∙ c.if-not-are_host_names.true)

pub returns-in_default : goal.returns-in_default
returns-in_default c =
    let d = document_view c.args.document.now in
    let hosts : key_names c.in_ok-hosts.hosts.keys ≡ host_order d.groups = c.in_ok-hosts.ensures ∙ ap (λ gs. host_order (map written_view gs)) c.as_slice-groups.ensures.value in
    let well = sym c.is_well_formed.ensures ∙ c.if-not-is_well_formed.false in
    let names = sym (host_order-all is_host_name d.groups) ∙ ap (list_all is_host_name) (sym hosts) ∙ sym c.are_host_names.ensures ∙ c.if-not-are_host_names.false in
    let h = c.in_default.is in
    let cycle = rw c.in_default.is at c.in_ok-order.ensures.cycle in
    judged-cycle d well names (ap (λ gs. has_cycle (map written_view gs)) (sym c.as_slice-groups.ensures.value) ∙ cycle)

pub returns-then-not-is_document_within : goal.returns-then-not-is_document_within
returns-then-not-is_document_within c =
    let d = document_view c.args.document.now in
    let hosts : key_names c.in_ok-hosts.hosts.keys ≡ host_order d.groups = c.in_ok-hosts.ensures ∙ ap (λ gs. host_order (map written_view gs)) c.as_slice-groups.ensures.value in
    let well = sym c.is_well_formed.ensures ∙ c.if-not-is_well_formed.false in
    let names = sym (host_order-all is_host_name d.groups) ∙ ap (list_all is_host_name) (sym hosts) ∙ sym c.are_host_names.ensures ∙ c.if-not-are_host_names.false in
    let order = rw c.in-Some.is at c.in_ok-order.ensures.cycle in
    judged-limit d well names (ap (λ gs. has_cycle (map written_view gs)) (sym c.as_slice-groups.ensures.value) ∙ order) (sym c.is_document_within.ensures ∙ c.if-not-is_document_within.true)

pub returns-in_err-put_together : goal.returns-in_err-put_together
returns-in_err-put_together c = no-memory (λ i. Ok (inventory_view i)) _ _ c.from_residual-in_err-put_together.ensures.1

pub returns : goal.returns
returns c =
    let d = document_view c.args.document.now in
    let hosts : key_names c.in_ok-hosts.hosts.keys ≡ host_order d.groups = c.in_ok-hosts.ensures ∙ ap (λ gs. host_order (map written_view gs)) c.as_slice-groups.ensures.value in
    let well = sym c.is_well_formed.ensures ∙ c.if-not-is_well_formed.false in
    let names = sym (host_order-all is_host_name d.groups) ∙ ap (list_all is_host_name) (sym hosts) ∙ sym c.are_host_names.ensures ∙ c.if-not-are_host_names.false in
    let order = rw c.in-Some.is at c.in_ok-order.ensures.cycle in
    judged-inventory d well names (ap (λ gs. has_cycle (map written_view gs)) (sym c.as_slice-groups.ensures.value) ∙ order) (sym c.is_document_within.ensures ∙ c.if-not-is_document_within.false) ∙ ap Ok (sym c.in_ok-put_together.ensures)
