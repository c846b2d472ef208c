use Rattle.std.proofs.Common.{◌≡◌, map, take}
use Rattle.serde_json.specs.Data.{no_members}
use Rattle.serde_json.specs.View.{members_view, view as json_view}
use Rattle.pb_value.specs.View.{fields_view, view}
use Rattle.pb_json.specs.Json.{json_of, members_onto}
use Rattle.pb_json.proofs.write.+json_value.Given as goal

abbrev pub invariant-json_fields-loop-name : goal.invariant-json_fields-loop-name
invariant-json_fields-loop-name l =
    members_onto (fields_view l.fields.entries) no_members ≡ members_onto (fields_view l.name-iterator) (members_view l.found.entries)

abbrev pub invariant-json_items-loop-item : goal.invariant-json_items-loop-item
invariant-json_items-loop-item l =
    map json_view l.found.items ≡ map (λ v. json_of (view v)) (take l.item-index l.items)
