use Rattle.pb_language.proofs.Ended.{stuck_give_marks, give_asks_again, give_settles, asked_once}
use Rattle.pb_language.proofs.laws.give_is_stepped.Goals as goal

pub returns-clause-stuck : goal.returns-clause-stuck
returns-clause-stuck c = stuck_give_marks

pub returns-clause-again : goal.returns-clause-again
returns-clause-again c = give_asks_again

pub returns-clause-fine : goal.returns-clause-fine
returns-clause-fine c = give_settles

pub returns-clause-once : goal.returns-clause-once
returns-clause-once c = asked_once
