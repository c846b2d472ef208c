use Rattle.std.proofs.Common.{◌≡◌, drop, map}
use Rattle.pb_rules.specs.Denied.{any_denied}
use Rattle.pb_rules.specs.Sites.{site_view}
use Rattle.pb_rules.proofs.denied.any_site_denied.Given as goal

abbrev pub invariant-loop-site : goal.invariant-loop-site
invariant-loop-site g l = any_denied (g.Q.Question.holds l.question) (map site_view (drop l.site-index l.sites)) ≡ any_denied (g.Q.Question.holds l.question) (map site_view l.sites)
