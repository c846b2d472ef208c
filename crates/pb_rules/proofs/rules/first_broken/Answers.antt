use denote.Ref.{Bor}
use Rattle.std.proofs.Common.{◌≡◌, ◌∙◌, map, ap, sym, subst}
use Rattle.pb_language.specs.Rules.{vars_names}
use Rattle.pb_language.specs.Sites.{sites_of}
use Rattle.pb_inventory.specs.Inventory.{inventory_view}
use Rattle.pb_inventory.specs.declared.inventory.Inventory.{Inventory}
use Rattle.pb_play.specs.Plays.{play_view}
use Rattle.pb_play.specs.Sound.{AreSound}
use Rattle.pb_semantics.specs.Keeps.{is_among}
use Rattle.pb_sig.specs.Modules.{modules_of}
use Rattle.pb_rules.specs.Broken.{first_broken}
use Rattle.pb_rules.specs.Names.{names_in}
use Rattle.pb_rules.specs.Rules.{all_asked}
use Rattle.pb_rules.specs.Sites.{site_view, tasks_at}
use Rattle.pb_rules.proofs.Least.{refusals}
use Rattle.pb_rules.proofs.Told.{HaveSame, book-told}
use Rattle.pb_rules.proofs.rules.first_broken.Goals as goal

pub returns : goal.returns
returns c =
    let ms = modules_of c.args.registry.now in
    let v = inventory_view c.args.inventory.now in
    let book = map play_view c.args.plays.now in
    let sites = c.in_ok-sites.sites.items in
    let given = names_in c.in_ok-given.given in
    let lines : map site_view sites ≡ sites_of book = c.in_ok-sites.ensures.lines in
    let names : HaveSame given (vars_names (sites_of book)) = λ n. c.in_ok-given.ensures n ∙ ap (λ xs. is_among n (vars_names (map site_view xs))) c.deref.ensures.value ∙ ap (λ ss. is_among n (vars_names ss)) lines in
    let sound : AreSound ms (tasks_at c.deref-2.result.now) = subst (AreSound ms) (sym (ap tasks_at c.deref-2.ensures.value ∙ c.in_ok-sites.ensures.tasks)) c.requires.resolved in
    let found : c.in_ok-found.found ≡ first_broken (all_asked ms v given) (sites_of book) = c.in_ok-found.ensures ms sound
    ∙ ap (λ (i : Bor Inventory). first_broken (all_asked ms (inventory_view i.now) given) (map site_view c.deref-2.result.now)) c.in_ok-known.ensures
    ∙ ap (λ xs. first_broken (all_asked ms v given) (map site_view xs)) c.deref-2.ensures.value
    ∙ ap (first_broken (all_asked ms v given)) lines in
    ap refusals c.with_steps.ensures ∙ book-told ms v book given c.line_past_steps.result c.in_ok-found.found names c.line_past_steps.ensures found
