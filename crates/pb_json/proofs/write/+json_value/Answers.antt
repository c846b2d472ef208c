use Rattle.std.proofs.Common.{◌≡◌, ap, map, rules, take, take_all, ◌∙◌, arith}
use Rattle.serde_json.specs.Data as json
use Rattle.serde_json.specs.View.{items_of}
use Rattle.serde_json.proofs.Views.{view-Object}
use Rattle.pb_value.specs.View.{view}
use Rattle.pb_value.specs.declared.value.Value.{the_lemmas}
use Rattle.pb_json.specs.Json.{json_of}
use Rattle.pb_json.proofs.Json.{items-json}
use Rattle.pb_json.proofs.write.+json_value.Goals as goal

pub json_value-returns-in_ok-json_fields-in-Rec : goal.json_value-returns-in_ok-json_fields-in-Rec
json_value-returns-in_ok-json_fields-in-Rec t c =
    view-Object c.in_ok-json_fields-in-Rec.field-0 ∙ ap json.object c.in_ok-json_fields-in-Rec.ensures ∙ search (rules, the_lemmas)

pub json_items-returns : goal.json_items-returns
json_items-returns t c =
    let all : take c.loop-item.item-index c.args.items.now ≡ c.args.items.now = take_all c.loop-item.item-index c.args.items.now (omega arith) in
    ap items_of (c.loop-item.invariant ∙ ap (map (λ v. json_of (view v))) all) ∙ items-json c.args.items.now
