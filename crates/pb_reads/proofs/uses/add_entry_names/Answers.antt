use Rattle.std.proofs.Common.{rules, ◌++◌}
use Rattle.pb_semantics.specs.Keeps.{is_among}
use Rattle.pb_language.specs.Rules.{part_names}
use Rattle.pb_template.specs.Entries.{entries_view}
use Rattle.pb_reads.specs.Reached.{names_in}
use Rattle.pb_reads.proofs.Written.{entry-next}
use Rattle.pb_reads.proofs.uses.add_entry_names.Goals as goal

pub loop-entry-preserved : goal.loop-entry-preserved
loop-entry-preserved c n =
    let l = c.loop-entry in
    let es = c.args.entries.now in
    entry-next n es l.entry-index c.entry-item.result c.as_str.result.now (names_in l.names) (names_in c.add_name.new.names) (is_among n (part_names (entries_view es) ++ names_in c.args.names.now)) c.loop-entry-test.true c.entry-item.is (search rules)
    (c.in_ok-add_name.ensures n) (l.invariant n)
