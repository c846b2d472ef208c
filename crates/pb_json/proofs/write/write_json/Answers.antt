use Rattle.std.proofs.Common.{ap, sym, ◌∙◌}
use Rattle.serde_json.specs.Written.{compact_text, has_float}
use Rattle.pb_value.specs.View.{view}
use Rattle.pb_json.proofs.Json.{no_float}
use Rattle.pb_json.proofs.write.write_json.Goals as goal

pub returns : goal.returns
returns c =
    let is = c.in_ok-json.ensures in
    c.in_ok-text.ensures.text (ap has_float is ∙ no_float (view c.args.value.now)) ∙ ap compact_text is
