-- What the variables of all hosts look like to each of them.
use Rattle.std.specs.Prelude.{List}
use Rattle.pb_language.specs.Scope.{View}
use Rattle.pb_hosts.specs.Tables.{views_with}
use Rattle.pb_hosts.specs.declared.views.Views.{Views}

abbrev pub views_view : Views → List View
views_view v = views_with v.inventory.now v.hosts.items
