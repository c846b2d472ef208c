use Rattle.std.proofs.Common.{◌≡◌, map, take}
use Rattle.std.specs.List.{All}
use Rattle.pb_language.specs.Families.{groups_of}
use Rattle.pb_language.specs.Inventories.{host_variables}
use Rattle.pb_language.specs.Program.{memberships_of}
use Rattle.pb_inventory.specs.Documents.{document_view, key_names}
use Rattle.pb_inventory.specs.Tables.{IsBase}
use Rattle.pb_inventory.specs.Views.{AreBased, base_lists, host_view, kept_groups}
use Rattle.pb_inventory.proofs.assembly.known_hosts.Given as goal

abbrev pub invariant-loop-place : goal.invariant-loop-place
invariant-loop-place l = record {
  hosts : map host_view l.known.entries ≡ map (host_variables (document_view l.document)) (take l.place (key_names l.hosts.keys));
  groups : kept_groups l.known.entries ≡ map (λ n. memberships_of n (groups_of (document_view l.document).groups)) (take l.place (key_names l.hosts.keys));
  bases : All (IsBase l.table) l.bases.items;
  based : AreBased (base_lists l.bases.items) l.known.entries;
}
