use Rattle.std.proofs.Common.{Some, ap, ◌∙◌}
use Rattle.pb_hosts.specs.Tables.{every_from, names_from}
use Rattle.pb_tables.proofs.HostLater.{none_lasts}
use Rattle.pb_tables.proofs.host.everything.Goals as goal

pub returns-clause-every : goal.returns-clause-every
returns-clause-every c = λ ns. ap (λ ps. names_from ns ps (every_from (Some 0))) (c.in_ok-vec.ensures.items_if_clones_equal (λ y e. e)) ∙ none_lasts ns c.args.names (every_from (Some 0))
