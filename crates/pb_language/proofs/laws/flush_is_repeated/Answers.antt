use Rattle.pb_language.proofs.FlushesRepeat.{accepted_repeats}
use Rattle.pb_language.proofs.FlushOrder.{flush_asks, handlers_are_numbered, order_notifies_later, asking_repeats, repeating_asks}
use Rattle.pb_language.proofs.laws.flush_is_repeated.Goals as goal

pub returns-clause-machine : goal.returns-clause-machine
returns-clause-machine c = flush_asks

pub returns-clause-numbered : goal.returns-clause-numbered
returns-clause-numbered c = handlers_are_numbered

pub returns-clause-later : goal.returns-clause-later
returns-clause-later c = order_notifies_later

pub returns-clause-asks : goal.returns-clause-asks
returns-clause-asks c = asking_repeats

pub returns-clause-repeats : goal.returns-clause-repeats
returns-clause-repeats c = repeating_asks

pub returns-clause-accepted : goal.returns-clause-accepted
returns-clause-accepted c = accepted_repeats
