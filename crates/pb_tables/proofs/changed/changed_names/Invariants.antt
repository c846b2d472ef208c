use Rattle.std.proofs.Common.{◌≡◌, false}
use Rattle.pb_semantics.specs.Keeps.{is_among}
use Rattle.pb_language.specs.Expression.{Name}
use Rattle.pb_rules.specs.Names.{names_in}
use Rattle.pb_hosts.specs.Shown.{views_view}
use Rattle.pb_tables.proofs.Changing.{SameTo}
use Rattle.pb_tables.proofs.changed.changed_names.Given as goal

abbrev pub invariant-loop-host : goal.invariant-loop-host
invariant-loop-host l = (x : Name) → is_among x (names_in l.names) ≡ false → SameTo x l.host (views_view l.before) (views_view l.after)
