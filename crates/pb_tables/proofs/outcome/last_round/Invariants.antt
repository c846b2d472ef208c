use Rattle.std.proofs.Common.{◌≡◌}
use Rattle.pb_language.specs.Program.{Program}
use Rattle.pb_lattice.specs.Arena.{names_of}
use Rattle.pb_tables.specs.Rounds.{AreAfter}
use Rattle.pb_tables.specs.Scenes.{AreScenes}
use Rattle.pb_tables.specs.Tabled.{AreTables}
use Rattle.pb_tables.proofs.outcome.last_round.Given as goal

abbrev pub invariant-loop-round : goal.invariant-loop-round
invariant-loop-round l = record {
  names : l.space.names ≡ names_of l.stage.names.now;
  inventory : l.tables.views.inventory ≡ l.stage.inventory;
  tables : AreTables l.stage l.tables;
  all : (ps : Program) → AreScenes l.stage.inventory.now ps l.stage.scenes.now → AreAfter l._round l.stage l.tables ps;
}
