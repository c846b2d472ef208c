use Rattle.pb_semantics.specs.Data.{list}
use Rattle.pb_sig.specs.Modules.{modules_of}
use Rattle.pb_value.specs.View.{items_view}
use Rattle.pb_play.proofs.Counted.{read-counted}
use Rattle.pb_play.proofs.read.read_plays.Goals as goal

pub returns-in-List-clause-counted : goal.returns-in-List-clause-counted
returns-in-List-clause-counted c = read-counted (modules_of c.args.registry.now) (list (items_view c.deref-in-List-2.result.now)) c.plays_in.result c.plays_in.ensures.given
