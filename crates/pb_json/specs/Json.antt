-- The JSON that a value is.
use Rattle.pb_semantics.specs.Data as value
use Rattle.pb_semantics.specs.Data.{Data, Fields, Items}
use Rattle.serde_json.specs.Data as json
use Rattle.serde_json.specs.Data.{Members, put}
use Rattle.serde_json.specs.Find.{of_integer}

-- the members of a record are put one after the other, each at its place by the bytes of its name
abbrev mutual
  pub json_of : Data → json.Data
  json_of value.null = json.null
  json_of (value.boolean b) = json.boolean b
  json_of (value.int z) = json.number (of_integer z)
  json_of (value.text s) = json.string s
  json_of (value.list ds) = json.array (items_json ds)
  json_of (value.rec fs) = json.object (members_onto fs json.no_members)
  json_of value.opaque = json.null

  pub items_json : Items → json.Items
  items_json value.no_items = json.no_items
  items_json (value.item d ds) = json.item (json_of d) (items_json ds)

  pub members_onto : Fields → Members → Members
  members_onto value.no_fields ms = ms
  members_onto (value.field n d fs) ms = members_onto fs (put n (json_of d) ms)
