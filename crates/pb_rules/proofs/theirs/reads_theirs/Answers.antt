use Rattle.std.proofs.Common.{◌∙◌, map}
use Rattle.std.proofs.lemmas.Result.{IfOk-weaker}
use Rattle.pb_language.specs.Sites.{sites_of}
use Rattle.pb_others.specs.Others.{is_theirs}
use Rattle.pb_play.specs.Plays.{play_view}
use Rattle.pb_rules.specs.Names.{names_in}
use Rattle.pb_rules.proofs.Denials.{rooted-denied}
use Rattle.pb_rules.proofs.theirs.reads_theirs.Goals as goal

pub returns : goal.returns
returns c =
    let q = is_theirs (names_in c.args.names.now) in
    IfOk-weaker c.any_denied.result _ _ (λ b e. e ∙ rooted-denied q (sites_of (map play_view c.args.plays.now))) c.any_denied.ensures
