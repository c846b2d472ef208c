use Rattle.pb_core.proofs.Lowest.{puts_in, adds_place, one_more}
use Rattle.std.specs.BTreeSet.{contains, btree_set_len}
use Rattle.pb_core.specs.Indexes.{place_cmp}
use Rattle.pb_core.proofs.index.put_in.Goals as goal

pub returns-clause-put : goal.returns-clause-put
returns-clause-put c = record {
  places = puts_in c.args.places.now c.insert.new.self c.args.host c.args.place c.in_ok-insert.ensures.updates.0;
  count = one_more c.in_ok-insert.field-0 (contains place_cmp c.args.places.now (c.args.place, c.args.host)) (btree_set_len c.insert.new.self) (btree_set_len c.args.places.now) c.in_ok-insert.ensures.added c.in_ok-insert.ensures.len;
}

pub returns-clause-added : goal.returns-clause-added
returns-clause-added c = adds_place c.args.places.now c.insert.new.self c.args.host c.args.place c.in_ok-insert.ensures.updates.0
