use Rattle.std.proofs.Common.{◌∙◌, ◌||◌, ap, sym}
use Rattle.pb_value.specs.View.{fields_view}
use Rattle.pb_play.specs.Heads.{has_wrong_form}
use Rattle.pb_play.proofs.Heads.{play-wrong}
use Rattle.pb_play.proofs.head.has_wrong_value.Goals as goal

pub returns-else-some_own_field_holds : goal.returns-else-some_own_field_holds
returns-else-some_own_field_holds c =
    let fs = fields_view c.args.fields.now.entries in
    c.has_wrong_form.ensures ∙ ap (λ q. q || has_wrong_form fs) (sym c.if-some_own_field_holds.false ∙ c.some_own_field_holds.ensures) ∙ sym (play-wrong fs)
