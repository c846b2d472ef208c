-- An inventory printed in the plainest form: each group lists its own hosts, and no group has
-- children or variables.
use Rattle.std.specs.Prelude.{List, [], ◌∷◌, map}
use Rattle.pb_semantics.specs.Data.{Data, Fields, rec, no_fields, put_field}
use Rattle.pb_language.specs.Printed.{printed_document}
use Rattle.pb_language.specs.Program.{Inventory}
use Rattle.pb_language.specs.World.{Group, HostVariables}
use Rattle.pb_language.specs.Written.{Document, Written}

abbrev pub flat : Group → Written
flat g = record { name = g.name; hosts = g.hosts; variables = no_fields; children = [] }

-- by the bytes of the hosts' names
abbrev pub printed_hosts : List HostVariables → Fields
printed_hosts [] = no_fields
printed_hosts (x ∷ xs) = put_field x.name (rec x.variables) (printed_hosts xs)

abbrev pub flat_document : Inventory → Document
flat_document i = record { groups = map flat i.groups; hostvars = printed_hosts i.hosts }

abbrev pub printed_inventory : Inventory → Data
printed_inventory i = printed_document (flat_document i)
