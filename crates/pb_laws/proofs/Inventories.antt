-- An inventory, printed, is read back as that inventory.
use Rattle.std.proofs.Common.{◌≡◌, suc, List, [], ◌∷◌, length, map, true, false, not, ◌||◌, cond, Some, Ok, Err, bytes_eq, refl, ap, ◌∙◌, subst}
use Rattle.std.specs.List.{flat_map, list_all}
use Rattle.std.specs.Ordering.{match_ordering, nat_cmp}
use Rattle.std.specs.declared.cmp.Ordering.{Ordering}
use Rattle.std.specs.declared.cmp.Ordering.TheVariants.{Less, Equal, Greater}
use Rattle.std.specs.Cmp.Lexicographic.{slice_cmp}
use Rattle.pb_semantics.specs.Data.{Data, Fields, rec, no_fields, field, field_value, put_field}
use Rattle.pb_semantics.specs.Keeps.{is_among}
use Rattle.pb_semantics.proofs.Bools.{and-left, and-right, and-both, neither-left, neither-right, or-right}
use Rattle.pb_semantics.proofs.Names.{own_name}
use Rattle.pb_language.proofs.GivenFields.{at_put_field}
use Rattle.pb_language.specs.Expression.{Name}
use Rattle.pb_language.specs.Families.{group_names, host_order, once}
use Rattle.pb_language.specs.Inventories.{cyclic, host_variables, inventory_found, inventory_of, judged_document, over_limit, overlaid, record_fields, wrong_form, wrong_host_name}
use Rattle.pb_language.specs.Printed.{DocumentsAreReadBack}
use Rattle.pb_language.specs.Program.{Inventory}
use Rattle.pb_language.specs.Theorem.{are_distinct, host_names}
use Rattle.pb_language.specs.World.{HostVariables}
use Rattle.pb_language.specs.Written.{are_hostvars, is_host_name, is_record, listed_hosts}
use Rattle.pb_laws.specs.PrintedInventory.{flat, flat_document, printed_hosts}
use Rattle.pb_laws.specs.PrintableInventory.{AreHosts, InventoriesAreReadBack, IsHost, IsPrintableInventory}
use Rattle.pb_laws.proofs.DistinctNames.{added_distinct, all_added, first_apart, rest_apart, turned}
use Rattle.pb_laws.proofs.FlatGroups.{groups_read, listed, no_cycle, no_group_variables, printable, well_named}
use Rattle.pb_laws.proofs.Variables.{variables_kept}

-- what is printed for hosts is an object for each

record_step : (o : Ordering) (hs : List Name) (n m : Name) (vs : Fields) (e : Data) (fs us : Fields) → are_hostvars hs (field m e fs) ≡ true → are_hostvars hs us ≡ true
    → are_hostvars hs (match_ordering o (field n (rec vs) (field m e fs)) (field m (rec vs) fs) (field m e us)) ≡ true
record_step Less hs n m vs e fs us h k = and-both (not (is_among n hs) || true) (are_hostvars hs (field m e fs)) (or-right (not (is_among n hs)) true refl) h
record_step Equal hs n m vs e fs us h k =
    and-both (not (is_among m hs) || true) (are_hostvars hs fs) (or-right (not (is_among m hs)) true refl) (and-right (not (is_among m hs) || is_record e) (are_hostvars hs fs) h)
record_step Greater hs n m vs e fs us h k = and-both (not (is_among m hs) || is_record e) (are_hostvars hs us) (and-left (not (is_among m hs) || is_record e) (are_hostvars hs fs) h) k

record_put : (hs : List Name) (n : Name) (vs fs : Fields) → are_hostvars hs fs ≡ true → are_hostvars hs (put_field n (rec vs) fs) ≡ true
record_put hs n vs no_fields h = and-both (not (is_among n hs) || true) true (or-right (not (is_among n hs)) true refl) refl
record_put hs n vs (field m e fs) h =
    record_step (slice_cmp nat_cmp n m) hs n m vs e fs (put_field n (rec vs) fs) h (record_put hs n vs fs (and-right (not (is_among m hs) || is_record e) (are_hostvars hs fs) h))

all_records : (hs : List Name) (xs : List HostVariables) → are_hostvars hs (printed_hosts xs) ≡ true
all_records hs [] = refl
all_records hs (x ∷ xs) = record_put hs x.name x.variables (printed_hosts xs) (all_records hs xs)

-- each of those hosts has its own variables among all hosts
abbrev HaveTheirs : List HostVariables → List HostVariables → Type 0
HaveTheirs all [] = Unit {0}
HaveTheirs all (x ∷ xs) = (record_fields (field_value x.name (printed_hosts all)) ≡ x.variables) × HaveTheirs all xs

theirs_still : (x : HostVariables) (all xs : List HostVariables) → is_among x.name (host_names xs) ≡ false → HaveTheirs all xs → HaveTheirs (x ∷ all) xs
theirs_still x all [] h k = tt
theirs_still x all (y ∷ ys) h k =
    let other = turned x.name y.name (neither-left (bytes_eq x.name y.name) (is_among x.name (host_names ys)) h) in (
      ap record_fields (at_put_field y.name x.name (rec x.variables) (printed_hosts all)) ∙ ap (λ q. record_fields (cond q (Some (rec x.variables)) (field_value y.name (printed_hosts all)))) other ∙ k.0,
      theirs_still x all ys (neither-right (bytes_eq x.name y.name) (is_among x.name (host_names ys)) h) k.1,
    )

have_theirs : (xs : List HostVariables) → are_distinct (host_names xs) ≡ true → HaveTheirs xs xs
have_theirs [] h = tt
have_theirs (x ∷ xs) h = (
  ap record_fields (at_put_field x.name x.name (rec x.variables) (printed_hosts xs)) ∙ ap (λ q. record_fields (cond q (Some (rec x.variables)) (field_value x.name (printed_hosts xs)))) (own_name x.name),
  theirs_still x xs xs (first_apart x.name (host_names xs) h) (have_theirs xs (rest_apart x.name (host_names xs) h)),
)

host_read : (i : Inventory) (x : HostVariables) → IsHost x → record_fields (field_value x.name (printed_hosts i.hosts)) ≡ x.variables → host_variables (flat_document i) x.name ≡ x
host_read i x h own =
    let ws = map flat i.groups in
    let variables = (λ j. overlaid (no_group_variables i.groups x.name (suc (length (group_names ws))) j) (own j)) ∙ variables_kept x.variables h.ordered h.own h.plain in
    λ j. record { name = x.name; variables = variables j }

each_host : (i : Inventory) (xs : List HostVariables) → AreHosts xs → HaveTheirs i.hosts xs → map (host_variables (flat_document i)) (host_names xs) ≡ xs
each_host i [] h k = refl
each_host i (x ∷ xs) h k = λ j. host_read i x h.0 k.0 j ∷ each_host i xs h.1 k.1 j

named : (xs : List HostVariables) → AreHosts xs → list_all is_host_name (host_names xs) ≡ true
named [] h = refl
named (x ∷ xs) h = and-both (is_host_name x.name) (list_all is_host_name (host_names xs)) (let n = h.0 in n.name) (named xs h.1)

inventory_said : (i : Inventory) → IsPrintableInventory i → inventory_of (flat_document i) ≡ i
inventory_said i h =
    let order : host_order (map flat i.groups) ≡ host_names i.hosts = ap once (listed i.groups) ∙ h.order in
    let distinct : are_distinct (host_names i.hosts) ≡ true = subst (λ ns. are_distinct ns ≡ true) h.order (added_distinct [] (flat_map (λ g. g.hosts) i.groups) refl) in
    let hosts = ap (map (host_variables (flat_document i))) order ∙ each_host i i.hosts h.hosts (have_theirs i.hosts distinct) in
    let groups = groups_read i h.names order h.groups in
    λ j. record { hosts = hosts j; groups = groups j }

document_judged : (i : Inventory) → IsPrintableInventory i → judged_document (flat_document i) ≡ Ok i
document_judged i h =
    let ws = map flat i.groups in
    let hs = listed_hosts ws in
    let formed = and-both _ (are_hostvars hs (printed_hosts i.hosts)) (well_named i.groups) (all_records hs i.hosts) in
    let hosts : list_all is_host_name hs ≡ true =
    ap (list_all is_host_name) (listed i.groups) ∙ all_added is_host_name (flat_map (λ g. g.hosts) i.groups) (ap (list_all is_host_name) h.order ∙ named i.hosts h.hosts) in
    let cycle = no_cycle i.groups in
    (λ j. cond (formed j) (cond (hosts j) (cond (cycle j) (Err cyclic) (cond (h.within j) (Ok (inventory_of (flat_document i))) (Err over_limit))) (Err wrong_host_name)) (Err wrong_form))
    ∙ ap Ok (inventory_said i h)

pub inventories_are_read_back : DocumentsAreReadBack → InventoriesAreReadBack
inventories_are_read_back read i h =
    let names = h.names in
    ap inventory_found (read (flat_document i) (printable i.groups names.usable)) ∙ document_judged i h
