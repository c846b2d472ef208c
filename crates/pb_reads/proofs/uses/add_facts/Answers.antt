use Rattle.std.proofs.Common.{rules, ◌++◌}
use Rattle.pb_semantics.specs.Keeps.{is_among}
use Rattle.pb_transfer.specs.Written.{sets_view}
use Rattle.pb_reads.specs.Reached.{names_in}
use Rattle.pb_reads.specs.Uses.{names_set}
use Rattle.pb_reads.proofs.Written.{fact-next}
use Rattle.pb_reads.proofs.uses.add_facts.Goals as goal

pub loop-fact-preserved : goal.loop-fact-preserved
loop-fact-preserved c n =
    let l = c.loop-fact in
    let fs = c.args.facts.now in
    fact-next n fs l.fact-index c.fact-item.result c.as_str.result.now (names_in l.names) (names_in c.add_name.new.names) (is_among n (names_set (sets_view fs) ++ names_in c.args.names.now)) c.loop-fact-test.true c.fact-item.is (search rules)
    (c.in_ok-add_name.ensures n) (l.invariant n)
