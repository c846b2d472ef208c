use Rattle.std.proofs.Common.{◌≡◌, ◌||◌, drop, map}
use Rattle.pb_semantics.specs.Keeps.{is_among}
use Rattle.pb_language.specs.Expression.{Name}
use Rattle.pb_language.specs.Rules.{vars_names}
use Rattle.pb_rules.specs.Names.{names_in}
use Rattle.pb_rules.specs.Sites.{site_view}
use Rattle.pb_rules.proofs.names.given_names.Given as goal

abbrev pub invariant-loop-site : goal.invariant-loop-site
invariant-loop-site l = (n : Name) → (is_among n (names_in l.names) || is_among n (vars_names (map site_view (drop l.site-index l.sites)))) ≡ is_among n (vars_names (map site_view l.sites))
