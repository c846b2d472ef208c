use Rattle.pb_walks.proofs.SameWrites.{next_views_agree}
use Rattle.pb_walks.proofs.SameLaters.{laters_of_agree}
use Rattle.pb_walks.proofs.tables_agree.Goals as goal

pub returns-clause-views : goal.returns-clause-views
returns-clause-views c = next_views_agree

pub returns-clause-laters : goal.returns-clause-laters
returns-clause-laters c = laters_of_agree
