use Rattle.std.proofs.Common.{◌∙◌, ◌||◌, ◌+◌, drop, map, ap, sym}
use Rattle.std.proofs.Math.Bool.{or_assoc}
use Rattle.pb_semantics.specs.Keeps.{is_among}
use Rattle.pb_language.specs.Rules.{part_names, vars_names}
use Rattle.pb_syntax.proofs.Left.{drop-at}
use Rattle.pb_rules.specs.Names.{names_in}
use Rattle.pb_rules.specs.Sites.{site_view}
use Rattle.pb_rules.proofs.Told.{among-both}
use Rattle.pb_rules.proofs.names.given_names.Goals as goal

pub loop-site-preserved : goal.loop-site-preserved
loop-site-preserved c n =
    let l = c.loop-site in
    let s = c.site-item.result in
    let names = (site_view s).vars in
    let rest = vars_names (map site_view (drop (l.site-index + 1) c.args.sites.now)) in
    let had = is_among n (names_in l.names) in
    ap (λ b. b || is_among n rest) (c.in_ok-add_names.ensures n ∙ ap (λ ps. had || is_among n (part_names ps)) c.vars.ensures) ∙ or_assoc had (is_among n (part_names names)) (is_among n rest)
    ∙ ap (λ b. had || b) (sym (among-both n (part_names names) rest)) ∙ ap (λ xs. had || is_among n (vars_names (map site_view xs))) (sym (drop-at c.args.sites.now l.site-index s c.loop-site-test.true c.site-item.is))
    ∙ l.invariant n
