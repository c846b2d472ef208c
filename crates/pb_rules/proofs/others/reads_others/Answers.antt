use Rattle.std.proofs.Common.{◌∙◌, map}
use Rattle.std.proofs.lemmas.Result.{IfOk-weaker}
use Rattle.pb_language.specs.Sites.{sites_of}
use Rattle.pb_play.specs.Plays.{play_view}
use Rattle.pb_rules.proofs.Denials.{others-denied}
use Rattle.pb_rules.proofs.others.reads_others.Goals as goal

pub returns : goal.returns
returns c = IfOk-weaker c.any_denied.result _ _ (λ b e. e ∙ others-denied (sites_of (map play_view c.args.plays.now))) c.any_denied.ensures
