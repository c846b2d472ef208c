use Rattle.pb_language.proofs.StartReads.{gives_read_their_start}
use Rattle.pb_language.proofs.OwnReads.{same_outcomes, same_results, same_at_give}
use Rattle.pb_language.proofs.laws.give_reads_its_start.Goals as goal

pub returns-clause-outcomes : goal.returns-clause-outcomes
returns-clause-outcomes c = same_outcomes

pub returns-clause-results : goal.returns-clause-results
returns-clause-results c = same_results

pub returns-clause-worlds : goal.returns-clause-worlds
returns-clause-worlds c = same_at_give

pub returns-clause-accepted : goal.returns-clause-accepted
returns-clause-accepted c = gives_read_their_start
