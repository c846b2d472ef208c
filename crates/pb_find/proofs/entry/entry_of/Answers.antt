use Rattle.pb_lattice.specs.Words.{exit_of}
use Rattle.pb_kind.specs.KindView.{slots_view}
use Rattle.pb_find.proofs.Entering.{agrees_with}
use Rattle.pb_find.proofs.entry.entry_of.Goals as goal

pub returns-clause-same : goal.returns-clause-same
returns-clause-same c = agrees_with (slots_view c.args.known.now.entries) (exit_of c.of_slots.new.self c.in_ok-at.at) c.requires c.in_ok-at.ensures.means
