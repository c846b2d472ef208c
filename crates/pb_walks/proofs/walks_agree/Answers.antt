use Rattle.pb_walks.proofs.SameWalks.{all_walked_agree, known_views_agree}
use Rattle.pb_walks.proofs.walks_agree.Goals as goal

pub returns-clause-known : goal.returns-clause-known
returns-clause-known c = known_views_agree

pub returns-clause-walked : goal.returns-clause-walked
returns-clause-walked c = all_walked_agree
