use Rattle.pb_walks.proofs.NamedWalks.{agreeing_name_handlers, ruled_name_handlers}
use Rattle.pb_walks.proofs.handlers_are_named.Goals as goal

pub returns-clause-ruled : goal.returns-clause-ruled
returns-clause-ruled c = ruled_name_handlers

pub returns-clause-agreeing : goal.returns-clause-agreeing
returns-clause-agreeing c = agreeing_name_handlers
