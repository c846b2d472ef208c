use Rattle.std.proofs.Common.{map, string_bytes, IfOk, subst, sym, ap, ◌∙◌}
use Rattle.std.proofs.lemmas.Result.{IfErr-weaker}
use Rattle.clap.specs.Words.{HasKind, fault_of, is_simple, is_simple_and_free, kind_of, subcommand_of}
use Rattle.pb_options.specs.Options.{IsMistakeWhere, Says, SaysNone, playcheck_app}
use Rattle.pb_options.proofs.Refusals.{IsRefusal-told, IsRefusal-none}
use Rattle.pb_options.proofs.options.options.Goals as goal

pub returns-in-Ok-clause-says : goal.returns-in-Ok-clause-says
returns-in-Ok-clause-says c =
    let app = c.in_ok-command.ensures in
    let words = map string_bytes c.args.words.now in
    let found = (c.in-Ok.ensures.matches (ap is_simple app)).1 in
    subst (λ x. IfOk c.chosen.result (Says x)) (found ∙ ap (λ a. subcommand_of a words) app) c.chosen.ensures.says

pub returns-in-Ok-clause-refused : goal.returns-in-Ok-clause-refused
returns-in-Ok-clause-refused c =
    let app = c.in_ok-command.ensures in
    let words = map string_bytes c.args.words.now in
    let none = ap (λ a. fault_of a words) (sym app) ∙ c.in-Ok.ensures.kinds (ap is_simple_and_free app) in
    let found = (c.in-Ok.ensures.matches (ap is_simple app)).1 ∙ ap (λ a. subcommand_of a words) app in
    IfErr-weaker c.chosen.result _ _
    (λ f says. IsRefusal-none (fault_of playcheck_app words) (subcommand_of playcheck_app words) none f (subst (λ x. IsMistakeWhere (SaysNone x) f) found says)) c.chosen.ensures.refused

pub returns-in-Err-clause-refused : goal.returns-in-Err-clause-refused
returns-in-Err-clause-refused c =
    let app = c.in_ok-command.ensures in
    let words = map string_bytes c.args.words.now in
    let found = c.in-Err.ensures.kinds (ap is_simple_and_free app) in
    IsRefusal-told (fault_of playcheck_app words) (subcommand_of playcheck_app words) (kind_of c.in-Err.e) c.fault_of.result (subst (λ a. HasKind (fault_of a words) c.in-Err.e) app found) c.fault_of.ensures
